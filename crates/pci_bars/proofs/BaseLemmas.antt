-- Base registers as four bytes, and the bases of a card by their numbers.
use Rattle.std.proofs.Common.{◌≡◌, ◌≢◌, ℕ, ◌^◌, ◌<◌, ◌≤◌, List, length, get_or, set, map, Some, ◌∙◌, sym, ap, Option}
use Rattle.std.proofs.Common.{option_map, arith, length-set, get_or-set_other, All, slice_get}
use Rattle.board_prelude.proofs.{w32, from_le_bytes, to_le_bytes, get_or_past, All-get_or, get_or-map, get_or-set_at}
use Rattle.board_prelude.proofs.{length-map, Base, IsBase, byte, each_below}
use Rattle.std.proofs.lemmas.Nat.{le_bytes_4}
use Rattle.std.proofs.Math.Pow.{pow_mono}
use Rattle.std.proofs.lemmas.Option.{slice_get_within, get_or_from_slice_get}
use Rattle.pci_bars.specs.declared.spec.BaseSpec.{BaseSpec}
use Rattle.pci_bars.specs.Bases.{base_of}
use Rattle.std.proofs.lemmas.Bool.Decides.{nat_tests}

-- ---- four bytes

pub long_byte : (n j : ℕ) → j < 4 → get_or (to_le_bytes w32 n) j 0 ≡ byte n j
long_byte n j below = grind (arith, nat_tests, each_below)

small_set : (n lane v i : ℕ) → lane < 4 → v < 256 → get_or (set (to_le_bytes w32 n) lane v) i 0 < 256
small_set n lane v i within below = grind (arith, nat_tests, get_or-set_at, get_or-set_other, get_or_past)

-- the other bytes of a number of which one was set
pub other_bytes : (n lane v new j : ℕ) → lane < 4 → v < 256 → new ≡ from_le_bytes w32 (set (to_le_bytes w32 n) lane v) →
    j < 4 → j ≢ lane → byte new j ≡ byte n j
other_bytes n lane v new j within below is j_below apart =
    let bytes = le_bytes_4 (set (to_le_bytes w32 n) lane v) new (length-set (to_le_bytes w32 n) lane v)
    (λ i. small_set n lane v i within below) is in
    sym (long_byte new j j_below)
    ∙ ap (λ bs. get_or bs j 0) bytes
    ∙ get_or-set_other (to_le_bytes w32 n) lane j v 0 apart
    ∙ long_byte n j j_below

-- ---- bases by their numbers

pub is_base : (bases : List Base) (k : ℕ) (base : Base) → All IsBase bases → slice_get bases k ≡ Some base → IsBase base
is_base bases k base each there = grind (arith, nat_tests, get_or_from_slice_get, slice_get_within)

-- the base that is found at a place
pub found_base : (bases : List Base) (k : ℕ) {found : Option BaseSpec} {base : BaseSpec} → All IsBase bases →
    option_map base_of found ≡ slice_get bases k → found ≡ Some base → IsBase (base_of base)
found_base bases k {found} {base} each is some = is_base _ k _ each (sym is ∙ ap (option_map base_of) some)

pub base_within : (bases : List BaseSpec) (k : ℕ) (d : BaseSpec) → All IsBase (map base_of bases) → k < length bases →
    IsBase (base_of (get_or bases k d))
base_within bases k d each below =
    rw (get_or-map base_of bases k d (base_of d) below) at
    (All-get_or IsBase (map base_of bases) k (base_of d) (omega (arith, length-map bases base_of)) each)

-- the size of an expansion ROM
pub rom_size : (bits : ℕ) → 11 ≤ bits → bits ≤ 24 → (2 ^ 11 ≤ 2 ^ bits) × (2 ^ bits ≤ 2 ^ 24)
rom_size bits least most = (pow_mono least, pow_mono most)
