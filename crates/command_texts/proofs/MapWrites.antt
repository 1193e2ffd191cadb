-- The map writes of a history as they are noted. The entry of a version is the first after which the map had it.
use Rattle.std.proofs.Common.{◌≡◌, ℕ, ◌+◌, ◌<◌, ◌≤◌, inl, inr, List, [], ◌∷◌, ◌++◌, length, refl, sym, ap, ◌∙◌, arith}
use Rattle.std.proofs.Common.{length-append, Some, None, zero, suc, drop}
use Rattle.board_prelude.proofs.{cases_lt, nat_tests, common_steps, length-reverse, Entry, MapChange, Setup}
use Rattle.board_prelude.proofs.{map_change_of, map_writes_of, version_of}
use Rattle.command_texts.specs.declared.writes.MapWrites.{MapWrites}
use Rattle.command_texts.specs.Blame.{entry_of_version}
use Rattle.command_texts.specs.Writes.{AreWritesOf}
use Rattle.command_texts.specs.Laws.{first_entries, EntryOfVersionIsFirst, IsFirstWith}

pub version_is : (setup : Setup) (history : List Entry) (writes : MapWrites) → AreWritesOf setup history writes →
    version_of setup history ≡ length writes.changes.items
version_is setup history writes are = sym (ap length are.changes) ∙ length-reverse writes.changes.items

-- ---- the entry of a version

pub entry_of_first : (setup : Setup) (history : List Entry) → entry_of_version setup history 0 ≡ 0
unfolding entry_of_version
entry_of_first setup [] = refl
entry_of_first setup (entry ∷ before) = grind (arith, nat_tests, entry_of_first setup before)

pub entry_before :
    (setup : Setup) (entry : Entry) (before : List Entry) (version : ℕ) → version ≤ version_of setup before →
    entry_of_version setup (entry ∷ before) version ≡ entry_of_version setup before version
unfolding entry_of_version
entry_before setup entry before version most = grind (arith, nat_tests)

pub entry_now : (setup : Setup) (entry : Entry) (before : List Entry) (version : ℕ) →
    version_of setup before < version → entry_of_version setup (entry ∷ before) version ≡ length before + 1
unfolding entry_of_version
entry_now setup entry before version above = grind (arith, nat_tests)

-- ---- one entry more

pub writes_same : (setup : Setup) (entry : Entry) (before : List Entry) (writes : MapWrites) →
    map_change_of setup before entry.event ≡ None → AreWritesOf setup before writes →
    AreWritesOf setup (entry ∷ before) writes
unfolding map_writes_of
writes_same setup entry before writes none are = grind (arith, nat_tests, entry_before, version_is)

pub writes_more : (setup : Setup) (entry : Entry) (before : List Entry) (change : MapChange) (old new : MapWrites) →
    map_change_of setup before entry.event ≡ Some change → new.changes.items ≡ old.changes.items ++ change ∷ [] →
    new.entries.items ≡ old.entries.items ++ (length before + 1) ∷ [] → AreWritesOf setup before old →
    AreWritesOf setup (entry ∷ before) new
unfolding map_writes_of
writes_more setup entry before change old new some changes entries are =
    let version = version_is setup before old are in
    grind (arith, nat_tests, common_steps, entry_before, entry_now)

-- ---- versions rise by at most one with each entry

rises_by_one :
    (setup : Setup) (entry : Entry) (before : List Entry) →
    (version_of setup before ≤ version_of setup (entry ∷ before))
    × (version_of setup (entry ∷ before) ≤ version_of setup before + 1)
unfolding map_writes_of
rises_by_one setup entry before = grind (arith, nat_tests, common_steps)

earlier_is_lower : (setup : Setup) (history : List Entry) (k : ℕ)
    → version_of setup (drop k history) ≤ version_of setup history
unfolding map_writes_of
earlier_is_lower setup history zero = omega arith
earlier_is_lower setup [] (suc k) = omega arith
earlier_is_lower setup (entry ∷ before) (suc k) =
    grind (arith, nat_tests, length-append, earlier_is_lower setup before k)

-- ---- the law

fewer_entries : (entry : Entry) (before : List Entry) (count : ℕ) → count ≤ length before →
    first_entries count (entry ∷ before) ≡ first_entries count before
fewer_entries entry before count few = grind (arith, nat_tests, common_steps)

entry_within :
    (setup : Setup) (history : List Entry) (version : ℕ) → entry_of_version setup history version ≤ length history
unfolding entry_of_version
entry_within setup [] version = omega arith
entry_within setup (entry ∷ before) version = grind (arith, nat_tests, entry_within setup before version)

-- a version that the last entry made
first_now : (setup : Setup) (entry : Entry) (before : List Entry) (version : ℕ) →
    version ≤ version_of setup (entry ∷ before) → version_of setup before < version →
    IsFirstWith setup (entry ∷ before) version (length before + 1)
first_now setup entry before version most above =
    let rise = (rises_by_one setup entry before).1 in
    grind (arith, nat_tests, common_steps, fewer_entries, earlier_is_lower)

-- and one that the map had before
first_before : (setup : Setup) (entry : Entry) (before : List Entry) (version count : ℕ) → count ≤ length before →
    IsFirstWith setup before version count → IsFirstWith setup (entry ∷ before) version count
first_before setup entry before version count within earlier =
    grind (arith, nat_tests, common_steps, fewer_entries)

pub entry_is_first : EntryOfVersionIsFirst
unfolding map_writes_of entry_of_version
entry_is_first setup [] version most = record { had = omega (arith, most); least = λ other has. omega arith }
entry_is_first setup (entry ∷ before) version most = elim (cases_lt (version_of setup before) version) [
  | inl above ↦ rw (entry_now setup entry before version above) (first_now setup entry before version most above)
  | inr below ↦
      rw (entry_before setup entry before version below)
      (first_before setup entry before version (entry_of_version setup before version)
      (entry_within setup before version) (entry_is_first setup before version below))
]
