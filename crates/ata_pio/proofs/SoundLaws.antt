-- A sound disk stays sound, and only a store changes a sector.
use Rattle.std.proofs.Common.{◌||◌, ◌++◌, rules, ltb, leb, ◌≡◌, ℕ, ◌/◌, ◌%◌, ◌<◌, Bool, false, cond, eqb, ◌&&◌, List}
use Rattle.std.proofs.Common.{[], ◌∷◌, length, refl, ◌∙◌, arith, length-set, length-append}
use Rattle.std.proofs.lemmas.Bool.{and_parts, ltb-true, leb-true, cases_Bool, cond-true, cond-false, eqb-true}
use Rattle.std.proofs.lemmas.List.{length-replicate}
use Rattle.board_base.specs.declared.access.Width.TheVariants.{One, Two, Four}
use Rattle.device_spec.specs.Ata.State.{Activity, Writing, Drive, Disk, sectors_of, sector_bytes}
use Rattle.device_spec.specs.Ata.Steps.{bytes_written, activity_written, word_written, word_read, with_drive}
use Rattle.std.proofs.lemmas.Bool.Decides.{nat_tests}
use Rattle.ata_pio.specs.Ata.Laws.{PowerOnIsSound, IsUnderWay, IsSound, Access, Read, Write, Spoil, Restart, stepped}
use Rattle.ata_pio.specs.Ata.Laws.{activity_stores, word_stores, stores, StaysSound, OnlyStoresChange, after_all}
use Rattle.ata_pio.specs.Ata.Laws.{NoneStores}
use Rattle.ata_pio.proofs.StoreLaws.{stored-whole, stored-other}
use Rattle.ata_pio.proofs.DriveLaws.{sector_written-under_way, commanded-under_way, register_written-under_way}
use Rattle.ata_pio.proofs.DriveLaws.{control_written-under_way, after_word-under_way}

-- what is kept as one disk becomes another, and of a sector that is not stored its bytes
pub record Keeps (t : ℕ) (stores_it : Bool) (before now : Disk) : Type 0 where
  pub sound : IsSound now
  pub sectors : sectors_of now.medium ≡ sectors_of before.medium
  pub same : stores_it ≡ false → sector_bytes now.medium t ≡ sector_bytes before.medium t

same_medium : (t : ℕ) (b : Bool) (disk : Disk) (d : Drive) → IsSound disk →
    IsUnderWay (sectors_of disk.medium) d.activity → Keeps t b disk (with_drive disk d)
same_medium t b disk d h u =
    record { sound = record { whole = h.whole; under_way = u }; sectors = refl; same = λ e. refl }

cond_keeps : (t : ℕ) (b : Bool) (before : Disk) (test : Bool) (x y : Disk) → Keeps t b before x → Keeps t b before y →
    Keeps t b before (cond test x y)
cond_keeps t b before test x y p q = grind (arith, nat_tests)

then_keeps : (t : ℕ) (a b : Bool) (x y z : Disk) → Keeps t a x y → Keeps t b y z → Keeps t (a || b) x z
then_keeps t a b x y z p q = grind (arith, nat_tests)

ruleset storing = (eqb-true, length-set, sector_written-under_way, stored-whole, stored-other)

-- a sector that has all its bytes is stored
bytes_written-keeps : (t s : ℕ) (bytes : List ℕ) (disk : Disk) → IsSound disk → s < sectors_of disk.medium →
    Keeps t (eqb (length bytes) 512 && eqb s t) disk (bytes_written s bytes disk)
bytes_written-keeps t s bytes disk h l =
    grind (arith, nat_tests, cases_Bool, eqb, cond-true, cond-false, storing)

activity_written-keeps : (t : ℕ) (a : Activity) (word : ℕ) (disk : Disk) → IsSound disk →
    IsUnderWay (sectors_of disk.medium) a → Keeps t (activity_stores a t) disk (activity_written a word disk)
activity_written-keeps t (Writing s bytes) word disk h u =
    let all = bytes ++ word % 256 ∷ word / 256 ∷ [] in
    let same : eqb (length all) 512 ≡ eqb (length bytes) 510 =
    grind (arith, nat_tests, length-append bytes (word % 256 ∷ word / 256 ∷ [])) in
    rw (← same) (bytes_written-keeps t s all disk h u)
activity_written-keeps t _ word disk h u = record { sound = h; sectors = refl; same = λ e. refl }

pub word_written-keeps : (t word : ℕ) (disk : Disk) → IsSound disk →
    Keeps t (word_stores disk t) disk (word_written word disk)
unfolding word_written
word_written-keeps t word disk h =
    grind (arith, nat_tests, activity_written-keeps t disk.drive.activity word disk h h.under_way)

word_read-keeps : (t : ℕ) (disk : Disk) → IsSound disk → Keeps t false disk (word_read disk)
word_read-keeps t disk h =
    same_medium t false disk _ h (after_word-under_way disk.medium disk.drive h.under_way)

step_keeps : (t : ℕ) (access : Access) (disk : Disk) → IsSound disk →
    Keeps t (stores access disk t) disk (stepped access disk)
step_keeps t (Read port One) disk h = grind (arith, nat_tests)
step_keeps t (Read port Two) disk h = word_read-keeps t disk h
step_keeps t (Read port Four) disk h =
    let first = word_read-keeps t disk h in
    then_keeps t false false disk _ _ first (word_read-keeps t (word_read disk) first.sound)
step_keeps t (Write port One value) disk h =
    search (rules, cond_keeps, same_medium, commanded-under_way, control_written-under_way, register_written-under_way)
step_keeps t (Write port Two value) disk h = word_written-keeps t (value % 65536) disk h
step_keeps t (Write port Four value) disk h =
    let first = word_written-keeps t (value % 65536) disk h in
    then_keeps t _ _ disk _ _ first (word_written-keeps t (value / 65536) _ first.sound)
step_keeps t (Spoil s) disk h = grind (arith, nat_tests, length-set)
step_keeps t Restart disk h = same_medium t false disk _ h tt

pub stays_sound : StaysSound
stays_sound access disk h = let k = step_keeps 0 access disk h in record { sound = k.sound; sectors = k.sectors }

pub only_stores_change : OnlyStoresChange
only_stores_change access disk t h n = (step_keeps t access disk h).same n

-- along a run
pub run_same : (accesses : List Access) (disk : Disk) (t : ℕ) → IsSound disk → NoneStores accesses disk t →
    sector_bytes (after_all accesses disk).medium t ≡ sector_bytes disk.medium t
run_same [] disk t h n = refl
run_same (access ∷ rest) disk t h n =
    let k = step_keeps t access disk h in
    run_same rest (stepped access disk) t k.sound n.1 ∙ k.same n.0

-- a length that is taken, and the sectors in it
pub power_on_is_sound : PowerOnIsSound
power_on_is_sound bytes h = search (rules, and_parts, eqb, ltb, leb, eqb-true, ltb-true, leb-true, length-replicate)
