-- A sector moves as 256 words.
use Rattle.std.proofs.Common.{rules, ◌≡◌, ◌≢◌, ℕ, zero, suc, ◌+◌, ◌*◌, ◌/◌, ◌%◌, ◌<◌, ◌≤◌, Bool, true, cond, eqb, List}
use Rattle.std.proofs.Common.{[], ◌∷◌, ◌++◌, length, drop, refl, ap, sym, subst, ◌∙◌, arith, length-append, get_or-drop}
use Rattle.std.proofs.Common.{append_assoc}
use Rattle.std.proofs.lemmas.Bool.{cond-true, cond-false, eq-eqb, ne_eqb}
use Rattle.std.proofs.lemmas.List.{drop-drop}
use Rattle.device_spec.specs.Ata.State.{Medium, Activity, Reading, Writing, Drive, Disk, sectors_of, sector_bytes}
use Rattle.device_spec.specs.Ata.State.{word_at, is_drq}
use Rattle.device_spec.specs.Ata.Address.{left_of, counted, naming}
use Rattle.device_spec.specs.Ata.Commands.{begin_read, sector_read, ended}
use Rattle.device_spec.specs.Ata.Steps.{word_of, word_read, word_written, after_word, with_drive, bytes_written}
use Rattle.std.proofs.lemmas.Bool.Decides.{nat_tests}
use Rattle.ata_pio.specs.Ata.Laws.{IsChosen, words_read, after_words_read, after_words_written, sector_words}
use Rattle.ata_pio.specs.Ata.Laws.{bytes_of_words, AreWords, SectorIsRead, SectorIsWritten, written_disk, ReadsBack}
use Rattle.ata_pio.specs.Ata.Laws.{IsSound, IsUnderWay, after_all}
use Rattle.ata_pio.proofs.StoreLaws.{word_at-bytes, stored-same}
use Rattle.ata_pio.proofs.SoundLaws.{run_same, word_written-keeps}

-- the drive with another activity, and the disk with it
abbrev acting : Drive → Activity → Drive
acting drive a = record drive { activity = a }

abbrev disk_acting : Disk → Activity → Disk
disk_acting disk a = record disk { drive = acting disk.drive a }

drq-reading : (d : Drive) (s w : ℕ) → IsChosen d → is_drq (acting d (Reading s w)) ≡ true
drq-reading d s w h = rw (h.drive_zero, h.free) refl

pub begin_read-other : (m : Medium) (d : Drive) (a : Activity) (q : Bool) →
    begin_read m (record d { activity = a; request = q }) ≡ begin_read m d
unfolding begin_read
begin_read-other m d a q = grind (arith, nat_tests)

sector_read-acting : (m : Medium) (s : ℕ) (d : Drive) (a : Activity) → sector_read m s (acting d a) ≡ sector_read m s d
unfolding sector_read
sector_read-acting m s d a =
    ap (λ (x : Drive). cond (eqb (left_of d.registers) 0) (ended (record d { registers = counted d.registers })) x)
    (begin_read-other m (record d { registers = naming (counted d.registers) (s + 1) }) a d.request)

-- one word of a sector that is read
word_of-reading : (disk : Disk) (s w : ℕ) → IsChosen disk.drive →
    word_of (disk_acting disk (Reading s w)) ≡ word_at disk.medium s w
word_of-reading disk s w h = grind (arith, nat_tests, drq-reading)

word_read-more : (disk : Disk) (s w : ℕ) → IsChosen disk.drive → w ≢ 255 →
    word_read (disk_acting disk (Reading s w)) ≡ disk_acting disk (Reading s (suc w))
unfolding after_word
word_read-more disk s w h n = grind (arith, nat_tests)

word_read-last : (disk : Disk) (s w : ℕ) → IsChosen disk.drive → w ≡ 255 →
    word_read (disk_acting disk (Reading s w)) ≡ with_drive disk (sector_read disk.medium s disk.drive)
unfolding after_word
word_read-last disk s w h e = grind (arith, nat_tests, cond-true, drq-reading, eqb, eq-eqb, sector_read-acting)

-- the rest of a sector that is read, from a word on
rest_is_read : (n : ℕ) (disk : Disk) (s w : ℕ) → IsChosen disk.drive → w + n ≡ 255 →
    (words_read (suc n) (disk_acting disk (Reading s w)) ≡ sector_words disk.medium s w (suc n))
    × (after_words_read (suc n) (disk_acting disk (Reading s w))
    ≡ with_drive disk (sector_read disk.medium s disk.drive))
unfolding words_read after_words_read sector_words
rest_is_read zero disk s w h e =
    (ap (λ x. x ∷ []) (word_of-reading disk s w h), word_read-last disk s w h (omega arith))
rest_is_read (suc n) disk s w h e =
    let more = word_read-more disk s w h (omega arith) in
    let later = rest_is_read n disk s (suc w) h (omega arith) in (
      ap (λ x. x ∷ words_read (suc n) (word_read (disk_acting disk (Reading s w)))) (word_of-reading disk s w h)
          ∙ ap (λ (x : Disk). word_at disk.medium s w ∷ words_read (suc n) x) more
          ∙ ap (λ xs. word_at disk.medium s w ∷ xs) later.0,
      ap (after_words_read (suc n)) more ∙ later.1,
    )

pub sector_is_read : SectorIsRead
sector_is_read disk s h e =
    record {
      words = ap (λ a. words_read 256 (disk_acting disk a)) e ∙ (rest_is_read 255 disk s 0 h refl).0;
      rest = ap (λ a. after_words_read 256 (disk_acting disk a)) e ∙ (rest_is_read 255 disk s 0 h refl).1;
    }

-- one word of a sector that is written
word_written-bytes : (disk : Disk) (s word : ℕ) (bytes : List ℕ) → IsChosen disk.drive
    → word_written word (disk_acting disk (Writing s bytes))
    ≡ bytes_written s (bytes ++ word % 256 ∷ word / 256 ∷ []) disk
unfolding word_written
word_written-bytes disk s word bytes h = grind (arith, nat_tests)

joined : (bytes rest : List ℕ) (a b : ℕ) → (bytes ++ a ∷ b ∷ []) ++ rest ≡ bytes ++ a ∷ (b ∷ rest)
joined bytes rest a b = append_assoc bytes (a ∷ b ∷ []) rest

words_fill : (words : List ℕ) (word : ℕ) (disk : Disk) (s : ℕ) (bytes : List ℕ) → IsChosen disk.drive →
    length bytes + 2 * length words ≡ 510 → after_words_written (word ∷ words)
    (disk_acting disk (Writing s bytes)) ≡ written_disk disk s (bytes ++ bytes_of_words (word ∷ words))
unfolding after_words_written
words_fill [] word disk s bytes h e = search (rules, word_written-bytes, cond-true, eqb, eq-eqb, length-append)
words_fill (next ∷ words) word disk s bytes h e =
    let more = bytes ++ word % 256 ∷ word / 256 ∷ [] in
    ap (after_words_written (next ∷ words))
    (word_written-bytes disk s word bytes h
    ∙ cond-false (eqb (length more) 512) _ _
    (ne_eqb (length more) 512 (λ q. omega (arith, length-append bytes (word % 256 ∷ word / 256 ∷ []), q))))
    ∙ words_fill words next disk s more h (omega (arith, length-append bytes (word % 256 ∷ word / 256 ∷ [])))
    ∙ ap (written_disk disk s) (joined bytes (bytes_of_words (next ∷ words)) (word % 256) (word / 256))

fill_all : (words : List ℕ) (disk : Disk) (s : ℕ) → IsChosen disk.drive → length words ≡ 256
    → after_words_written words (disk_acting disk (Writing s [])) ≡ written_disk disk s (bytes_of_words words)
fill_all [] disk s h e = absurd (omega arith)
fill_all (word ∷ words) disk s h e = words_fill words word disk s [] h (omega arith)

pub sector_is_written : SectorIsWritten
sector_is_written disk s words h e l = ap (λ a. after_words_written words (disk_acting disk a)) e
    ∙ fill_all words disk s h l

pub length-bytes_of_words : (words : List ℕ) → length (bytes_of_words words) ≡ 2 * length words
length-bytes_of_words [] = refl
length-bytes_of_words (word ∷ words) = omega (arith, length-bytes_of_words words)

-- the words of a sector whose bytes are known
words_known : (words : List ℕ) (m : Medium) (s from : ℕ) → from + length words ≤ 256 → AreWords words
    → drop (2 * from) (sector_bytes m s) ≡ bytes_of_words words → sector_words m s from (length words) ≡ words
unfolding sector_words
words_known [] m s from h a e = refl
words_known (word ∷ words) m s from h a e =
    let low = get_or-drop (2 * from) (sector_bytes m s) 0 0 in
    let high = get_or-drop (2 * from) (sector_bytes m s) 1 0 in
    let first : word_at m s from ≡ word =
    grind (arith, nat_tests, word_at-bytes m s from (omega arith), low, high) in
    let next : drop (2 * suc from) (sector_bytes m s) ≡ bytes_of_words words =
    grind (arith, nat_tests, drop-drop 2 (2 * from) (sector_bytes m s)) in
    rw (first, words_known words m s (suc from) (omega arith) a.1 next) refl

words_written-sound : (words : List ℕ) (disk : Disk) → IsSound disk → IsSound (after_words_written words disk)
unfolding after_words_written
words_written-sound [] disk h = h
words_written-sound (word ∷ words) disk h =
    words_written-sound words (word_written word disk) (word_written-keeps 0 word disk h).sound

pub reads_back : ReadsBack
reads_back disk s words accesses sound chosen writing l words_fit none later_chosen reading =
    let after = after_words_written words disk in
    let later = after_all accesses after in
    let there : s < sectors_of disk.medium = subst (λ (a : Activity). IsUnderWay (sectors_of disk.medium) a) writing
    sound.under_way in
    let whole : length (bytes_of_words words) ≡ 512 = omega (arith, length-bytes_of_words words) in
    let stored_is : sector_bytes after.medium s ≡ bytes_of_words words =
    ap (λ (x : Disk). sector_bytes x.medium s) (sector_is_written disk s words chosen writing l)
    ∙ stored-same disk.medium s (bytes_of_words words) sound.whole there whole in
    let kept : sector_bytes later.medium s ≡ sector_bytes after.medium s =
    run_same accesses after s (words_written-sound words disk sound) none in
    (sector_is_read later s later_chosen reading).words
    ∙ ap (sector_words later.medium s 0) (sym l)
    ∙ words_known words later.medium s 0 (omega arith) words_fit (kept ∙ stored_is)
