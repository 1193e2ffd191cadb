-- A command moves exactly its count of sectors, or stops at the first that fails.
use Rattle.std.proofs.Common.{◌≡◌, ℕ, zero, suc, ◌+◌, ◌*◌, ◌<◌, ◌≤◌, ◌⊎◌, Bool, true, false, eqb, List, [], ◌∷◌, ◌++◌}
use Rattle.std.proofs.Common.{length, Some, Result, Ok, Err, refl, ap, ◌∙◌, arith, length-set}
use Rattle.std.proofs.lemmas.Bool.{cond-false, ne_eqb}
use Rattle.device_spec.specs.Ata.State.{Medium, Reading, Writing, Drive, Disk, sectors_of, sector_bytes, stored}
use Rattle.device_spec.specs.Ata.Address.{named, left_of}
use Rattle.device_spec.specs.Ata.Commands.{readable, reads_found, finished, ended, begin_read, begin_write, sector_read}
use Rattle.device_spec.specs.Ata.Commands.{sector_written, verified, counted_down, moved_to}
use Rattle.device_spec.specs.Ata.Steps.{word_of, word_read, word_written, with_drive}
use Rattle.std.proofs.lemmas.Bool.Decides.{nat_tests}
use Rattle.ata_pio.specs.Ata.Laws.{IsWhole, IsChosen, words_read, after_words_read, after_words_written, sector_words}
use Rattle.ata_pio.specs.Ata.Laws.{bytes_of_words, moved_on, AllReadable, MovesOn, words_of_sectors, reading_disk}
use Rattle.ata_pio.specs.Ata.Laws.{ReadMovesItsSectors, VerifyLooksAtItsSectors, writing_disk, all_stored, AreSectors}
use Rattle.ata_pio.specs.Ata.Laws.{all_words, request_of, WriteMovesItsSectors}
use Rattle.ata_pio.proofs.StoreLaws.{stored-other, stored-whole}
use Rattle.ata_pio.proofs.Verifies.{verified-fails, verified-more, verified-end}
use Rattle.ata_pio.proofs.WordLaws.{begin_read-other, sector_is_read, sector_is_written, length-bytes_of_words}

-- the drive at the next sector
abbrev next : ℕ → Drive → Drive
next sector drive = moved_to (sector + 1) (counted_down drive)

-- a drive that can move n sectors from one on
record CanMove (sector n : ℕ) (d : Drive) : Type 0 where
  chosen : IsChosen d
  names : named d.registers ≡ Some sector
  left : n ≤ left_of d.registers
  room : sector + n ≤ 65536

goes_on : (sector n : ℕ) (d : Drive) → CanMove sector (suc n) d →
    CanMove (sector + 1) n (next sector d) × (left_of (next sector d).registers + 1 ≡ left_of d.registers)
goes_on sector n d can = grind (arith, nat_tests)

pub moves_on : MovesOn
unfolding moved_on
moves_on drive sector zero h e n l = grind (arith, nat_tests)
moves_on drive sector (suc n) h e more l =
    let first = goes_on sector n drive (record { chosen = h; names = e; left = more; room = l }) in
    let rest =
    moves_on (next sector drive) (sector + 1) n first.0.chosen first.0.names first.0.left (omega (arith, l)) in
    record {
      names = rest.names ∙ ap Some (omega arith);
      left = omega (arith, rest.left, first.1);
      chosen = rest.chosen;
    }

-- the first of some sectors, and the others
first_readable : (m : Medium) (sector n : ℕ) → AllReadable m sector (suc n) → readable m (Some sector) ≡ Ok sector
first_readable m sector n h = grind (arith, nat_tests)

later_readable : (m : Medium) (sector n : ℕ) → AllReadable m sector (suc n) → AllReadable m (sector + 1) n
later_readable m sector n h = λ k l.
    let same : sector + suc k ≡ sector + 1 + k = omega arith in
    rw same at (h (suc k) (omega arith))

-- reads of the data port, one run after another
reads_add : (a b : ℕ) (disk : Disk) →
    (words_read (a + b) disk ≡ words_read a disk ++ words_read b (after_words_read a disk))
    × (after_words_read (a + b) disk ≡ after_words_read b (after_words_read a disk))
unfolding words_read after_words_read
reads_add zero b disk = let none : zero + b ≡ b = omega arith in rw none (refl, refl)
reads_add (suc a) b disk =
    let next_is : suc a + b ≡ suc (a + b) = omega arith in
    let later = reads_add a b (word_read disk) in
    rw next_is (ap (λ ws. word_of disk ∷ ws) later.0, later.1)

-- the read of the sector that is named, by whether it can be read
begin_read-is : (m : Medium) (d : Drive) (x : Result ℕ ℕ) → readable m (named d.registers) ≡ x →
    begin_read m d ≡ reads_found x d
unfolding begin_read
begin_read-is m d x e = ap (λ y. reads_found y d) e

-- the drive while it reads a sector
abbrev reading : ℕ → Drive → Drive
reading sector d = record d { activity = Reading sector 0; request = true }

begins : (disk : Disk) (sector : ℕ) (d : Drive) → named d.registers ≡ Some sector →
    readable disk.medium (Some sector) ≡ Ok sector → reading_disk disk d ≡ with_drive disk (reading sector d)
begins disk sector d e h = grind (arith, nat_tests, begin_read-is)

sector_read-more : (m : Medium) (sector : ℕ) (d : Drive) → 0 < left_of d.registers →
    sector_read m sector (reading sector d) ≡ begin_read m (next sector d)
unfolding sector_read
sector_read-more m sector d h =
    cond-false (eqb (left_of d.registers) 0) _ _ (ne_eqb (left_of d.registers) 0 (λ e. omega arith))
    ∙ begin_read-other m (next sector d) (Reading sector 0) true

sector_read-last : (m : Medium) (sector : ℕ) (d : Drive) → left_of d.registers ≡ 0 →
    sector_read m sector (reading sector d) ≡ finished (counted_down d)
unfolding sector_read
sector_read-last m sector d h = grind (arith, nat_tests)

-- one whole sector of a read
sector_passes : (disk : Disk) (sector : ℕ) (d : Drive) → IsChosen d → named d.registers ≡ Some sector →
    readable disk.medium (Some sector) ≡ Ok sector
    → (words_read 256 (reading_disk disk d) ≡ sector_words disk.medium sector 0 256)
    × (after_words_read 256 (reading_disk disk d) ≡ with_drive disk (sector_read disk.medium sector (reading sector d)))
sector_passes disk sector d h e r =
    let begun = begins disk sector d e r in
    let moved = sector_is_read (with_drive disk (reading sector d)) sector
    (record { drive_zero = h.drive_zero; free = h.free }) refl in
    (ap (words_read 256) begun ∙ moved.words, ap (after_words_read 256) begun ∙ moved.rest)

reads : (n : ℕ) (disk : Disk) (sector : ℕ) (d : Drive) → CanMove sector n d → AllReadable disk.medium sector n
    → (words_read (n * 256) (reading_disk disk d) ≡ words_of_sectors disk.medium sector n)
    × (after_words_read (n * 256) (reading_disk disk d) ≡ reading_disk disk (moved_on sector n d))
unfolding moved_on
reads zero disk sector d can r = unfold words_read after_words_read in (refl, refl)
reads (suc n) disk sector d can r =
    let times : suc n * 256 ≡ 256 + n * 256 = omega arith in
    let passes = sector_passes disk sector d can.chosen can.names (first_readable disk.medium sector n r) in
    let more = sector_read-more disk.medium sector d (omega (arith, can.left)) in
    let parts = reads_add 256 (n * 256) (reading_disk disk d) in
    let later =
    reads n disk (sector + 1) (next sector d) (goes_on sector n d can).0 (later_readable disk.medium sector n r) in
    rw times (cc (parts.0, passes.0, passes.1, more, later.0), cc (parts.1, passes.1, more, later.1))

pub read_moves_its_sectors : ReadMovesItsSectors
read_moves_its_sectors disk sector n h e more l r =
    let on = reads n disk sector disk.drive (record { chosen = h; names = e; left = more; room = l }) r in
    let d = moved_on sector n disk.drive in
    let stands = moves_on disk.drive sector n h e more l in
    record {
      words = on.0;
      rest = on.1;
      fails = λ error bad.
          on.1 ∙ ap (with_drive disk) (begin_read-is disk.medium d (Err error)
          (ap (readable disk.medium) stands.names ∙ bad));
      ends = λ good last.
          let times : suc n * 256 ≡ n * 256 + 256 = omega arith in
          let parts = reads_add (n * 256) 256 (reading_disk disk disk.drive) in
          let passes = sector_passes disk (sector + n) d stands.chosen stands.names good in
          let ends = sector_read-last disk.medium (sector + n) d (omega (arith, stands.left)) in
          rw times (cc (parts.1, on.1, passes.1, ends));
    }

-- verify looks at its sectors in turn
verifies_on : (n : ℕ) (m : Medium) (sector : ℕ) (d : Drive) → CanMove sector n d → AllReadable m sector n
    → verified m (left_of d.registers) d ≡ verified m (left_of (moved_on sector n d).registers) (moved_on sector n d)
unfolding moved_on
verifies_on zero m sector d can r = refl
verifies_on (suc n) m sector d can r =
    verified-more m _ d (ap (readable m) can.names ∙ first_readable m _ n r) (λ z. omega (arith, can.left))
    ∙ verifies_on n m (sector + 1) (next sector d) (goes_on sector n d can).0 (later_readable m _ n r)

pub verify_looks_at_its_sectors : VerifyLooksAtItsSectors
verify_looks_at_its_sectors m sector n drive h e more l r =
    let on = verifies_on n m _ _ (record { chosen = h; names = e; left = more; room = l }) r in
    let d = moved_on sector n drive in
    let stands = moves_on drive sector n h e more l in
    record {
      fails = λ error bad. on ∙ verified-fails m (left_of d.registers) _ d (ap (readable m) stands.names ∙ bad);
      ends = λ good last.
          let none : left_of d.registers ≡ 0 = omega (arith, stands.left) in
          on ∙ (ap (λ left. verified m left d) none ∙ verified-end m _ d (ap (readable m) stands.names ∙ good));
    }

-- words that are written, one run after another
after_words_written-append : (xs ys : List ℕ) (disk : Disk) →
    after_words_written (xs ++ ys) disk ≡ after_words_written ys (after_words_written xs disk)
unfolding after_words_written
after_words_written-append [] ys disk = refl
after_words_written-append (x ∷ xs) ys disk = after_words_written-append xs ys (word_written x disk)

abbrev writing : ℕ → Bool → Drive → Drive
writing sector q d = record d { activity = Writing sector []; request = q }

sector_written-last : (m : Medium) (sector : ℕ) (q : Bool) (d : Drive) → left_of d.registers ≡ 0 →
    sector_written m sector (ended (writing sector q d)) ≡ finished (counted_down d)
unfolding sector_written
sector_written-last m sector q d h = grind (arith, nat_tests)

sector_written-more : (m : Medium) (sector : ℕ) (q : Bool) (d : Drive) → 0 < left_of d.registers →
    sector_written m sector (ended (writing sector q d)) ≡ begin_write m true (next sector d)
unfolding sector_written begin_write
sector_written-more m sector q d h = grind (arith, nat_tests)

-- one whole sector of a write
sector_comes : (m : Medium) (sector : ℕ) (q : Bool) (d : Drive) (words : List ℕ) → IsChosen d →
    named d.registers ≡ Some sector → sector < sectors_of m → length words ≡ 256
    → after_words_written words (writing_disk m q d)
    ≡ record {
      medium = stored m sector (bytes_of_words words);
      drive = sector_written (stored m sector (bytes_of_words words)) sector (ended (writing sector q d));
    }
unfolding begin_write
sector_comes m sector q d words h e there l =
    let begun : writing_disk m q d ≡ record { medium = m; drive = writing sector q d } =
    ap (λ (x : Drive). record { medium = m; drive = x }) (grind (arith, nat_tests)) in
    ap (after_words_written words) begun
    ∙ sector_is_written (record { medium = m; drive = writing sector q d }) sector words
    (record { drive_zero = h.drive_zero; free = h.free }) refl l

abbrev storing : Medium → ℕ → List ℕ → Medium
storing m sector words = stored m sector (bytes_of_words words)

full : (words : List ℕ) → length words ≡ 256 → length (bytes_of_words words) ≡ 512
full words e = omega (arith, length-bytes_of_words words)

writes_on : (sectors : List (List ℕ)) (m : Medium) (sector : ℕ) (q : Bool) (d : Drive) →
    CanMove sector (length sectors) d → sector + length sectors ≤ sectors_of m → AreSectors sectors →
    after_words_written (all_words sectors) (writing_disk m q d)
    ≡ writing_disk (all_stored m sector sectors) (request_of sectors q) (moved_on sector (length sectors) d)
unfolding after_words_written moved_on
writes_on [] m sector q d can l a = refl
writes_on (words ∷ rest) m sector q d can l a =
    let m2 = storing m sector words in
    let same : sectors_of m2 ≡ sectors_of m = length-set m.bad sector false in
    let parts = after_words_written-append words (all_words rest) (writing_disk m q d) in
    let comes = sector_comes m sector q d words can.chosen can.names (omega arith) a.0 in
    let more = sector_written-more m2 sector q d (omega (arith, can.left)) in
    let later =
    writes_on rest m2 (sector + 1) true (next sector d) (goes_on sector (length rest) d can).0 (omega (arith, same))
    a.1 in
    let asks : request_of rest true ≡ true = grind (arith, nat_tests) in
    cc (parts, comes, more, later, asks)

pub others_stay : (sectors : List (List ℕ)) (m : Medium) (sector other : ℕ) → IsWhole m →
    sector + length sectors ≤ sectors_of m → AreSectors sectors
    → ((other < sector) ⊎ (sector + length sectors ≤ other)) →
    sector_bytes (all_stored m sector sectors) other ≡ sector_bytes m other
others_stay [] m sector other w l a o = refl
others_stay (words ∷ rest) m sector other w l a o =
    let m2 = storing m sector words in
    let same : sectors_of m2 ≡ sectors_of m = length-set m.bad sector false in
    others_stay rest m2 (sector + 1) other (stored-whole m sector (bytes_of_words words) w (omega arith)
    (full words a.0)) (omega (arith, same)) a.1 (grind arith)
    ∙ stored-other m sector other (bytes_of_words words) w (omega arith) (full words a.0) (omega arith)

sectors_of-all_stored : (sectors : List (List ℕ)) (m : Medium) (sector : ℕ) →
    sectors_of (all_stored m sector sectors) ≡ sectors_of m
sectors_of-all_stored [] m sector = refl
sectors_of-all_stored (words ∷ rest) m sector = sectors_of-all_stored rest (storing m sector words) (sector + 1)
    ∙ length-set m.bad sector false

pub write_moves_its_sectors : WriteMovesItsSectors
write_moves_its_sectors m sector sectors q drive h w e more l few a =
    let can : CanMove sector (length sectors) drive =
    record { chosen = h; names = e; left = more; room = omega arith } in
    let on = writes_on sectors m sector q drive can l a in
    let d = moved_on sector (length sectors) drive in
    let stands = moves_on drive sector (length sectors) h e more (omega arith) in
    let now = all_stored m sector sectors in
    let p = request_of sectors q in
    record {
      rest = on;
      others = λ other o. others_stay sectors m sector other w l a o;
      ends = λ last whole there none.
          let left : left_of d.registers ≡ 0 = omega (arith, stands.left) in
          let room : sector + length sectors < sectors_of now = omega (arith, sectors_of-all_stored sectors m sector) in
          let then = storing now (sector + length sectors) last in
          after_words_written-append (all_words sectors) last (writing_disk m q drive)
          ∙ ap (after_words_written last) on
          ∙ sector_comes now (sector + length sectors) p d last stands.chosen stands.names room whole
          ∙ ap (λ (x : Drive). record { medium = then; drive = x }) (sector_written-last
          then (sector + length sectors) p d left);
    }
