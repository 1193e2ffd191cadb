-- Which entries are map writes, the version of the map, and the windows of its last change.
use Rattle.std.proofs.Common.{◌≡◌, ℕ, Bool, true, false, ◌+◌, ◌%◌, ◌≤◌, List, [], ◌∷◌, ◌++◌, length, Option, Some, None}
use Rattle.std.proofs.Common.{arith, if◌then◌else◌, option_and_then}
use Rattle.board_prelude.proofs.{option_to_list, nat_tests, Entry, MapChange, Store, Width, Reg, Setup, register_change}
use Rattle.board_prelude.proofs.{byte_of, touches_map, map_change_of, map_writes_of, version_of, cond_both}
use Rattle.map_builder.specs.declared.range.Changed.{Changed}
use Rattle.map_builder.specs.Map.{next_version}
use Rattle.map_builder.specs.Applied.{AreChanged}
use Rattle.board_chipset.specs.Versions.{version_count, AreNextChanged, AreLastChanged}

-- the map write that a change of the registers is, and whether it is one
abbrev pub map_write : Setup → Option MapChange → Option MapChange
map_write setup change = option_and_then (λ it. if touches_map setup it then Some it else None) change

abbrev pub moves : Setup → Option MapChange → Bool
moves setup None = false
moves setup (Some change) = touches_map setup change

counted : (setup : Setup) (change : Option MapChange) (writes : List MapChange) →
    length (option_to_list (map_write setup change) ++ writes)
    ≡ (if moves setup change then length writes + 1 else length writes)
counted setup change writes = grind (arith, nat_tests)

-- the version modulo 2^32 after a change of the registers
abbrev pub version_by : Setup → Option MapChange → ℕ → ℕ
version_by setup change version = if moves setup change then next_version version else version

-- the windows of the last change become those of a map write, and stay where there is none
abbrev pub Follow : Setup → List Entry → Option MapChange → (old new : List Changed) → Type 0
Follow setup history change old new = AreNextChanged setup history (map_write setup change) (new ≡ old) new

follow : (setup : Setup) (history : List Entry) (write : Option MapChange) (old new : List Changed) →
    AreLastChanged setup history old → AreNextChanged setup history write (new ≡ old) new →
    AreNextChanged setup history write (AreLastChanged setup history new) new
follow setup history None old new was same = rw same was
follow setup history (Some change) old new was are = are

-- ---- after an entry that makes a change of the registers

module _ (setup : Setup) (history : List Entry) (entry : Entry) (change : Option MapChange)
    (is : register_change setup history entry.event ≡ change) where
  version_after : version_of setup (entry ∷ history)
      ≡ (if moves setup change then version_of setup history + 1 else version_of setup history)
  unfolding map_change_of map_writes_of
  version_after = rw is (counted setup change (map_writes_of setup history))

  pub modulo_after : version_by setup change (version_of setup history % version_count)
      ≡ version_of setup (entry ∷ history) % version_count
  modulo_after = rw version_after (grind (arith, nat_tests))

  pub changed_after : (old new : List Changed) → AreLastChanged setup history old →
      Follow setup history change old new → AreLastChanged setup (entry ∷ history) new
  unfolding AreLastChanged map_change_of
  changed_after old new was are = rw is (follow setup history (map_write setup change) old new was are)

-- a store, which is a map write or not
pub store_follows :
    (setup : Setup) (history : List Entry) (reg : Reg) (width : Width) (value : ℕ) {old new : List Changed} →
    (touches_map setup (Store reg width value) ≡ true →
    AreChanged setup (byte_of setup history) (Store reg width value) new) →
    (touches_map setup (Store reg width value) ≡ false → new ≡ old) →
    Follow setup history (Some (Store reg width value)) old new
store_follows setup history reg width value {old} {new} written beside =
    cond_both (touches_map setup (Store reg width value)) _ _
    (λ (write : Option MapChange). AreNextChanged setup history write (new ≡ old) new) written beside

-- ---- a version below 2^32

-- each map write is an entry
pub few_writes : (setup : Setup) (history : List Entry) → version_of setup history ≤ length history
unfolding map_writes_of
few_writes setup [] = omega arith
few_writes setup (entry ∷ before) = grind (arith, nat_tests, few_writes setup before)
