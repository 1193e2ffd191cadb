-- What holds of the disk beyond its rules, said of whole transfers and of any run of accesses.
use Rattle.std.specs.Prelude.{◌≡◌, ◌⊎◌, ℕ, zero, suc, ◌+◌, ◌*◌, ◌/◌, ◌%◌, ◌<◌, ◌≤◌, ◌==◌, Bool, true, false, ◌&&◌, ◌||◌}
use Rattle.std.specs.Prelude.{List, [], ◌∷◌, ◌++◌, length, Some, Ok, Err}
use Rattle.board_base.specs.declared.access.Width.{Width}
use Rattle.board_base.specs.declared.access.Width.TheVariants.{One, Two, Four}
use Rattle.device_spec.specs.Ata.State.{power_on, is_disk_length, Medium, Registers, Activity, Ready, Failed, Reading}
use Rattle.device_spec.specs.Ata.State.{Writing, Identifying, Drive, Disk, sectors_of, word_at, sector_bytes, stored}
use Rattle.device_spec.specs.Ata.State.{is_drive_one, is_drq}
use Rattle.device_spec.specs.Ata.Address.{named, naming, left_of}
use Rattle.device_spec.specs.Ata.Commands.{readable, counted_down, moved_to, ended, failed, finished, begin_read}
use Rattle.device_spec.specs.Ata.Commands.{begin_write, verified, sector_read, sector_written}
use Rattle.device_spec.specs.Ata.Steps.{word_of, word_read, word_written, with_drive, after_bad, after_read}
use Rattle.device_spec.specs.Ata.Steps.{after_write, after_reset}
use Rattle.device_spec.specs.PortNames.{disk_control_port}

-- A read of the alternate status changes nothing.
abbrev pub AlternateStatusReads : Type 0
AlternateStatusReads = (disk : Disk) → after_read disk_control_port One disk ≡ disk

-- The registers that were written back for a sector name it, in either form.
abbrev pub WrittenBackNames : Type 0
WrittenBackNames = (r : Registers) (sector : ℕ) → sector ≤ 65536 → named (naming r sector) ≡ Some sector

-- every sector has its 512 bytes
abbrev pub IsWhole : Medium → Type 0
IsWhole medium = length medium.bytes ≡ 512 * length medium.bad

-- the sector under way is one of the disk's, and has come at most in part
abbrev pub IsUnderWay : ℕ → Activity → Type 0
IsUnderWay sectors Ready = Unit {0}
IsUnderWay sectors Failed = Unit {0}
IsUnderWay sectors (Reading sector word) = sector < sectors
IsUnderWay sectors (Writing sector bytes) = sector < sectors
IsUnderWay sectors (Identifying word) = Unit {0}

pub record IsSound (disk : Disk) : Type 0 where
  pub whole : IsWhole disk.medium
  pub under_way : IsUnderWay (sectors_of disk.medium) disk.drive.activity

-- A disk that was opened is sound, and has 1 to 65,536 sectors.
pub record OpensSound (bytes : List ℕ) : Type 0 where
  pub sound : IsSound (power_on bytes)
  pub some : 1 ≤ sectors_of (power_on bytes).medium
  pub few : sectors_of (power_on bytes).medium ≤ 65536

abbrev pub PowerOnIsSound : Type 0
PowerOnIsSound = (bytes : List ℕ) → is_disk_length (length bytes) ≡ true → OpensSound bytes

-- One access to the disk, or what else happens to it.
pub data Access : Type 0 where
  Read : (port : ℕ) → Width → Access
  Write : (port : ℕ) → Width → (value : ℕ) → Access
  Spoil : (sector : ℕ) → Access
  Restart : Access

abbrev pub stepped : Access → Disk → Disk
stepped (Read port width) disk = after_read port width disk
stepped (Write port width value) disk = after_write port width value disk
stepped (Spoil sector) disk = after_bad sector disk
stepped Restart disk = after_reset disk

-- whether a word that is written now stores this sector, being the last word of it
abbrev pub activity_stores : Activity → ℕ → Bool
activity_stores Ready sector = false
activity_stores Failed sector = false
activity_stores (Reading s word) sector = false
activity_stores (Writing s bytes) sector = (length bytes == 510) && (s == sector)
activity_stores (Identifying word) sector = false

abbrev pub word_stores : Disk → ℕ → Bool
word_stores disk sector = is_drq disk.drive && activity_stores disk.drive.activity sector

-- whether an access stores this sector
abbrev pub stores : Access → Disk → ℕ → Bool
stores (Read port width) disk sector = false
stores (Write port One value) disk sector = false
stores (Write port Two value) disk sector = word_stores disk sector
stores (Write port Four value) disk sector =
    word_stores disk sector || word_stores (word_written (value % 65536) disk) sector
stores (Spoil s) disk sector = false
stores Restart disk sector = false

-- a run of accesses, the first one first, and that none of them stores a sector
abbrev pub after_all : List Access → Disk → Disk
after_all [] disk = disk
after_all (access ∷ rest) disk = after_all rest (stepped access disk)

abbrev pub NoneStores : List Access → Disk → ℕ → Type 0
NoneStores [] disk sector = Unit {0}
NoneStores (access ∷ rest) disk sector =
    (stores access disk sector ≡ false) × NoneStores rest (stepped access disk) sector

-- A sound disk stays sound, and keeps its number of sectors.
pub record KeepsSound (access : Access) (disk : Disk) : Type 0 where
  pub sound : IsSound (stepped access disk)
  pub sectors : sectors_of (stepped access disk).medium ≡ sectors_of disk.medium

abbrev pub StaysSound : Type 0
StaysSound = (access : Access) (disk : Disk) → IsSound disk → KeepsSound access disk

-- An access that does not store a sector leaves its bytes as they are.
abbrev pub OnlyStoresChange : Type 0
OnlyStoresChange =
    (access : Access) (disk : Disk) (sector : ℕ) → IsSound disk → stores access disk sector ≡ false
    → sector_bytes (stepped access disk).medium sector ≡ sector_bytes disk.medium sector

-- the words that n reads of the data port give, and the disk after them
unfoldable pub words_read : ℕ → Disk → List ℕ
words_read zero disk = []
words_read (suc n) disk = word_of disk ∷ words_read n (word_read disk)

unfoldable pub after_words_read : ℕ → Disk → Disk
after_words_read zero disk = disk
after_words_read (suc n) disk = after_words_read n (word_read disk)

-- the disk after these words were written to the data port
unfoldable pub after_words_written : List ℕ → Disk → Disk
after_words_written [] disk = disk
after_words_written (word ∷ rest) disk = after_words_written rest (word_written word disk)

-- n words of a sector, from a word on
unfoldable pub sector_words : Medium → ℕ → ℕ → ℕ → List ℕ
sector_words medium sector from zero = []
sector_words medium sector from (suc n) = word_at medium sector from ∷ sector_words medium sector (suc from) n

-- the bytes of words, each with its lower byte first
abbrev pub bytes_of_words : List ℕ → List ℕ
bytes_of_words [] = []
bytes_of_words (word ∷ rest) = word % 256 ∷ (word / 256 ∷ bytes_of_words rest)

-- words of 16 bits
abbrev pub AreWords : List ℕ → Type 0
AreWords [] = Unit {0}
AreWords (word ∷ rest) = (word < 65536) × AreWords rest

-- the drive is drive 0, and SRST does not hold it
pub record IsChosen (drive : Drive) : Type 0 where
  pub drive_zero : is_drive_one drive.registers ≡ false
  pub free : drive.registers.srst ≡ false

-- A sector moves as 256 words: they are the sector's, and then the drive goes on.
pub record ReadsSector (disk : Disk) (sector : ℕ) : Type 0 where
  pub words : words_read 256 disk ≡ sector_words disk.medium sector 0 256
  pub rest : after_words_read 256 disk ≡ with_drive disk (sector_read disk.medium sector disk.drive)

abbrev pub SectorIsRead : Type 0
SectorIsRead =
    (disk : Disk) (sector : ℕ) → IsChosen disk.drive → disk.drive.activity ≡ Reading sector 0 → ReadsSector disk sector

abbrev pub written_disk : Disk → ℕ → List ℕ → Disk
written_disk disk sector bytes = record {
  medium = stored disk.medium sector bytes;
  drive = sector_written (stored disk.medium sector bytes) sector (ended disk.drive);
}

abbrev pub SectorIsWritten : Type 0
SectorIsWritten =
    (disk : Disk) (sector : ℕ) (words : List ℕ) → IsChosen disk.drive → disk.drive.activity ≡ Writing sector []
    → length words ≡ 256 → after_words_written words disk ≡ written_disk disk sector (bytes_of_words words)

-- A sector that was written and not stored again reads back the same.
abbrev pub ReadsBack : Type 0
ReadsBack =
    (disk : Disk) (sector : ℕ) (words : List ℕ) (accesses : List Access) → IsSound disk → IsChosen disk.drive
    → disk.drive.activity ≡ Writing sector [] → length words ≡ 256 → AreWords words
    → NoneStores accesses (after_words_written words disk) sector
    → let later = after_all accesses (after_words_written words disk) in
    IsChosen later.drive → later.drive.activity ≡ Reading sector 0 → words_read 256 later ≡ words

-- The drive once the address moved on over n sectors from a sector on, and the count fell by n.
unfoldable pub moved_on : ℕ → ℕ → Drive → Drive
moved_on sector zero drive = drive
moved_on sector (suc n) drive = moved_on (sector + 1) n (moved_to (sector + 1) (counted_down drive))

-- the first n sectors from a sector on can all be read
abbrev pub AllReadable : Medium → ℕ → ℕ → Type 0
AllReadable medium sector n = (k : ℕ) → k < n → readable medium (Some (sector + k)) ≡ Ok (sector + k)

-- it stands at the n-th sector after the one that it named, with n sectors less to move
pub record StandsAt (sector n : ℕ) (before now : Drive) : Type 0 where
  pub names : named now.registers ≡ Some (sector + n)
  pub left : left_of now.registers + n ≡ left_of before.registers
  pub chosen : IsChosen now

abbrev pub MovesOn : Type 0
MovesOn =
    (drive : Drive) (sector n : ℕ) → IsChosen drive → named drive.registers ≡ Some sector → n ≤ left_of drive.registers
    → sector + n ≤ 65536 → StandsAt sector n drive (moved_on sector n drive)

-- the words of n sectors from a sector on
abbrev pub words_of_sectors : Medium → ℕ → ℕ → List ℕ
words_of_sectors medium sector zero = []
words_of_sectors medium sector (suc n) = sector_words medium sector 0 256 ++ words_of_sectors medium (sector + 1) n

-- the disk as a read begins
abbrev pub reading_disk : Disk → Drive → Disk
reading_disk disk drive = with_drive disk (begin_read disk.medium drive)

-- A read of which n sectors can be read gives their words, and then looks at the sector after them: it
-- stops there where that one fails, with the error that this sector has. Where none is left after it,
-- its words are the last; the request is the one that came with it.
pub record ReadsSectors (disk : Disk) (sector n : ℕ) : Type 0 where
  pub words : words_read (n * 256) (reading_disk disk disk.drive) ≡ words_of_sectors disk.medium sector n
  pub rest :
      after_words_read (n * 256) (reading_disk disk disk.drive) ≡ reading_disk disk (moved_on sector n disk.drive)
  pub fails :
      (error : ℕ) → readable disk.medium (Some (sector + n)) ≡ Err error
      → after_words_read (n * 256) (reading_disk disk disk.drive)
      ≡ with_drive disk (failed error (moved_on sector n disk.drive))
  pub ends :
      readable disk.medium (Some (sector + n)) ≡ Ok (sector + n) → n ≡ left_of disk.drive.registers
      → after_words_read (suc n * 256) (reading_disk disk disk.drive)
      ≡ with_drive disk (finished (counted_down (moved_on sector n disk.drive)))

abbrev pub ReadMovesItsSectors : Type 0
ReadMovesItsSectors =
    (disk : Disk) (sector n : ℕ) → IsChosen disk.drive → named disk.drive.registers ≡ Some sector
    → n ≤ left_of disk.drive.registers → sector + n ≤ 65536 → AllReadable disk.medium sector n
    → ReadsSectors disk sector n

-- Verify looks at as many sectors, and stops at the first that cannot be read.
pub record VerifiesSectors (medium : Medium) (sector n : ℕ) (drive : Drive) : Type 0 where
  pub fails :
      (error : ℕ) → readable medium (Some (sector + n)) ≡ Err error
      → verified medium (left_of drive.registers) drive ≡ failed error (moved_on sector n drive)
  pub ends :
      readable medium (Some (sector + n)) ≡ Ok (sector + n) → n ≡ left_of drive.registers
      → verified medium (left_of drive.registers) drive ≡ finished (counted_down (moved_on sector n drive))

abbrev pub VerifyLooksAtItsSectors : Type 0
VerifyLooksAtItsSectors =
    (medium : Medium) (sector n : ℕ) (drive : Drive) → IsChosen drive → named drive.registers ≡ Some sector
    → n ≤ left_of drive.registers → sector + n ≤ 65536 → AllReadable medium sector n
    → VerifiesSectors medium sector n drive

-- the disk as a write begins, or goes on with a request
abbrev pub writing_disk : Medium → Bool → Drive → Disk
writing_disk medium request drive = record { medium = medium; drive = begin_write medium request drive }

-- the sectors once each of these runs of 256 words was written to one of them, from a sector on
abbrev pub all_stored : Medium → ℕ → List (List ℕ) → Medium
all_stored medium sector [] = medium
all_stored medium sector (words ∷ rest) = all_stored (stored medium sector (bytes_of_words words)) (sector + 1) rest

abbrev pub AreSectors : List (List ℕ) → Type 0
AreSectors [] = Unit {0}
AreSectors (words ∷ rest) = (length words ≡ 256) × AreSectors rest

abbrev pub all_words : List (List ℕ) → List ℕ
all_words [] = []
all_words (words ∷ rest) = words ++ all_words rest

-- a write goes on from its second sector with a request
abbrev pub request_of : List (List ℕ) → Bool → Bool
request_of [] request = request
request_of (words ∷ rest) request = true

-- A write of which n sectors are there stores them, in turn, and then goes on to the sector after
-- them, without the words of which it stops where that one is not found. Where none is left after it,
-- its words are the last. No other sector changes.
pub record WritesSectors (medium : Medium) (sector : ℕ) (sectors : List (List ℕ)) (request : Bool)
    (drive : Drive) : Type 0 where
  pub rest :
      after_words_written (all_words sectors) (writing_disk medium request drive)
      ≡ writing_disk (all_stored medium sector sectors) (request_of sectors request)
      (moved_on sector (length sectors) drive)
  pub others :
      (other : ℕ) → ((other < sector) ⊎ (sector + length sectors ≤ other))
      → sector_bytes (all_stored medium sector sectors) other ≡ sector_bytes medium other
  pub ends :
      (last : List ℕ) → length last ≡ 256 → sector + length sectors < sectors_of medium
      → length sectors ≡ left_of drive.registers
      → after_words_written (all_words sectors ++ last) (writing_disk medium request drive)
      ≡ record {
        medium = stored (all_stored medium sector sectors) (sector + length sectors) (bytes_of_words last);
        drive = finished (counted_down (moved_on sector (length sectors) drive));
      }

abbrev pub WriteMovesItsSectors : Type 0
WriteMovesItsSectors =
    (medium : Medium) (sector : ℕ) (sectors : List (List ℕ)) (request : Bool) (drive : Drive) → IsChosen drive
    → IsWhole medium → named drive.registers ≡ Some sector → length sectors ≤ left_of drive.registers
    → sector + length sectors ≤ sectors_of medium → sectors_of medium ≤ 65536 → AreSectors sectors
    → WritesSectors medium sector sectors request drive
