-- Worked examples of the ATA disk.
use Rattle.std.specs.Prelude.{◌≡◌, ℕ, zero, suc, Bool, true, false, List, [], ◌∷◌, ◌++◌, map, replicate, Option, Some}
use Rattle.std.specs.Prelude.{None}
use Rattle.board_prelude.specs.{One, Disk, power_on_drive, power_on_registers, is_interrupt, is_disk_length, power_on}
use Rattle.board_prelude.specs.{named, naming, identify_word, is_ata_port, read_of, after_bad}
use Rattle.board_base.specs.declared.access.Width.TheVariants.{Two, Four}
use Rattle.board_examples.specs.Machines.Words.{digit, given, told}
use Rattle.device_spec.specs.Ata.Steps.{after_read, after_write, after_reset}

-- a write of a byte, a read and the byte that it gives, words and double words at the data port, a number
-- of words that are read and not looked at, or written, the same each; a bad sector, a hard reset, and the interrupt
-- line
pub data Line : Type 0 where
  Out : (port byte : ℕ) → Line
  In : (port byte : ℕ) → Line
  InWord : (word : ℕ) → Line
  OutWord : (word : ℕ) → Line
  InLong : (value : ℕ) → Line
  OutLong : (value : ℕ) → Line
  Pass : (words : ℕ) → Line
  Fill : (words word : ℕ) → Line
  Bad : (sector : ℕ) → Line
  Reset : Line
  Level : (level : Bool) → Line

unfoldable pub passed : ℕ → Disk → Disk
passed zero disk = disk
passed (suc n) disk = passed n (after_read 0x1F0 Two disk)

unfoldable pub filled : ℕ → ℕ → Disk → Disk
filled zero word disk = disk
filled (suc n) word disk = filled n word (after_write 0x1F0 Two word disk)

abbrev pub after : Line → Disk → Disk
after (Out port byte) disk = after_write port One byte disk
after (In port byte) disk = after_read port One disk
after (InWord word) disk = after_read 0x1F0 Two disk
after (OutWord word) disk = after_write 0x1F0 Two word disk
after (InLong value) disk = after_read 0x1F0 Four disk
after (OutLong value) disk = after_write 0x1F0 Four value disk
after (Pass words) disk = passed words disk
after (Fill words word) disk = filled words word disk
after (Bad sector) disk = after_bad sector disk
after Reset disk = after_reset disk
after (Level level) disk = disk

abbrev pub gives : Line → Disk → List ℕ
gives (Out port byte) disk = []
gives (In port byte) disk = read_of port One disk ∷ []
gives (InWord word) disk = read_of 0x1F0 Two disk ∷ []
gives (OutWord word) disk = []
gives (InLong value) disk = read_of 0x1F0 Four disk ∷ []
gives (OutLong value) disk = []
gives (Pass words) disk = []
gives (Fill words word) disk = []
gives (Bad sector) disk = []
gives Reset disk = []
gives (Level level) disk = digit (is_interrupt disk.drive) ∷ []

abbrev pub tells : Line → List ℕ
tells (Out port byte) = []
tells (In port byte) = byte ∷ []
tells (InWord word) = word ∷ []
tells (OutWord word) = []
tells (InLong value) = value ∷ []
tells (OutLong value) = []
tells (Pass words) = []
tells (Fill words word) = []
tells (Bad sector) = []
tells Reset = []
tells (Level level) = digit level ∷ []

abbrev pub Gives : Disk → List Line → Type 0
Gives disk lines = given gives after lines disk ≡ told tells lines

-- a disk of n sectors as power-on leaves it, whatever its bytes
abbrev pub disk_of : ℕ → List ℕ → Disk
disk_of n bytes = record { medium = record { bytes = bytes; bad = replicate n false }; drive = power_on_drive }

-- with four sectors the disk gives what the lines say
abbrev pub Answers : List Line → Type 0
Answers lines = (bytes : List ℕ) → Gives (disk_of 4 bytes) lines

-- ---- reading

-- a count of 0 is 256: a read runs past the end of the disk
abbrev pub past_the_end : List Line
past_the_end =
    Out 0x1F6 0xE0 ∷ Out 0x1F2 0x00 ∷ Out 0x1F3 0x03 ∷ Out 0x1F4 0x00 ∷ Out 0x1F5 0x00 ∷ Out 0x1F7 0x20
    ∷ In 0x1F7 0x58 ∷ Pass 256 ∷ In 0x1F7 0x51 ∷ In 0x1F1 0x10 ∷ In 0x1F2 0xFF ∷ In 0x1F3 0x04 ∷ []

unfoldable pub PastTheEnd : Type 0
PastTheEnd = Answers past_the_end

-- a read that meets a bad sector stops there and names it
abbrev pub bad_in_the_middle : List Line
bad_in_the_middle =
    Bad 2 ∷ Bad 9 ∷ Out 0x1F6 0xE0 ∷ Out 0x1F2 0x03 ∷ Out 0x1F3 0x01 ∷ Level false ∷ Out 0x1F7 0x20 ∷ Level true
    ∷ In 0x1F7 0x58
    ∷ Level false ∷ Pass 256 ∷ Level true ∷ In 0x3F6 0x51 ∷ Level true ∷ In 0x1F1 0x40 ∷ In 0x1F2 0x02 ∷ In 0x1F3 0x02
    ∷ InWord 0xFFFF ∷ []

unfoldable pub BadInTheMiddle : Type 0
BadInTheMiddle = Answers bad_in_the_middle

-- the last word ends a read without a request, at its last sector
abbrev pub read_to_its_end : List Line
read_to_its_end =
    Out 0x1F6 0xE0 ∷ Out 0x1F2 0x02 ∷ Out 0x1F3 0x01 ∷ Out 0x1F7 0x20 ∷ In 0x1F7 0x58 ∷ Pass 255 ∷ Level false
    ∷ In 0x1F2 0x02
    ∷ Pass 1 ∷ Level true ∷ In 0x1F2 0x01 ∷ In 0x1F3 0x02 ∷ In 0x1F7 0x58 ∷ Pass 256 ∷ Level false ∷ In 0x1F7 0x50
    ∷ In 0x1F2 0x00 ∷ In 0x1F3 0x02 ∷ InWord 0xFFFF ∷ []

unfoldable pub ReadToItsEnd : Type 0
ReadToItsEnd = Answers read_to_its_end

-- ---- writing

-- a bad sector cannot be read, and can be written
abbrev pub bad_is_written : List Line
bad_is_written =
    Bad 1 ∷ Out 0x1F6 0xE0 ∷ Out 0x1F2 0x01 ∷ Out 0x1F3 0x01 ∷ Out 0x1F4 0x00 ∷ Out 0x1F5 0x00 ∷ Out 0x1F7 0x20
    ∷ In 0x1F7 0x51 ∷ In 0x1F1 0x40 ∷ In 0x1F2 0x01 ∷ Out 0x1F7 0x30 ∷ Level false ∷ In 0x1F7 0x58 ∷ []

unfoldable pub BadIsWritten : Type 0
BadIsWritten = Answers bad_is_written

-- after its words are written the sector is good, and holds them
abbrev pub written_is_good : List Line
written_is_good =
    Bad 1 ∷ Out 0x1F6 0xE0 ∷ Out 0x1F2 0x01 ∷ Out 0x1F3 0x01 ∷ Out 0x1F7 0x30 ∷ Fill 256 0x0707 ∷ In 0x1F7 0x50
    ∷ Out 0x1F2 0x01 ∷ Out 0x1F3 0x01 ∷ Out 0x1F7 0x20 ∷ InLong 0x0707_0707 ∷ In 0x1F1 0x00
    ∷ Out 0x1F7 0xE7 ∷ Out 0x1F3 0x02 ∷ Out 0x1F7 0x20 ∷ InLong 0x0303_0303 ∷ Out 0x1F7 0xE7 ∷ Out 0x1F3 0x00
    ∷ Out 0x1F7 0x20
    ∷ InLong 0x0101_0101 ∷ []

-- each byte of sector s is s + 1
abbrev pub counting_bytes : List ℕ
counting_bytes = replicate 512 1 ++ (replicate 512 2 ++ (replicate 512 3 ++ replicate 512 4))

unfoldable pub WrittenIsGood : Type 0
WrittenIsGood = Gives (disk_of 4 counting_bytes) written_is_good

-- the words of the third sector
abbrev pub words_of_sector_3 : List Line
words_of_sector_3 =
    Out 0x1F6 0xE0 ∷ Out 0x1F3 0x03 ∷ Out 0x1F7 0x20 ∷ InLong 0x0404_0404 ∷ Pass 252 ∷ InWord 0x0404 ∷ InWord 0x0404
    ∷ In 0x1F7 0x50 ∷ []

unfoldable pub WordsOfSector3 : Type 0
WordsOfSector3 = Gives (disk_of 4 counting_bytes) words_of_sector_3

-- bytes of a word and of a double word come with the lowest first; words that no one reads are 0
abbrev pub low_byte_first : List Line
low_byte_first =
    Out 0x1F6 0xE0 ∷ Out 0x1F3 0x00 ∷ Out 0x1F7 0x30 ∷ OutLong 0x4433_2211 ∷ OutWord 0x6655 ∷ OutWord 0x8877
    ∷ Fill 252 0 ∷ In 0x1F7 0x50 ∷ Out 0x1F2 0x01
    ∷ Out 0x1F7 0x20 ∷ InWord 0x2211 ∷ InWord 0x4433 ∷ InLong 0x8877_6655 ∷ Pass 250 ∷ InLong 0 ∷ InWord 0xFFFF ∷ []

unfoldable pub LowByteFirst : Type 0
LowByteFirst = Gives (disk_of 4 counting_bytes) low_byte_first

-- a write goes on with a request from its second sector on, and stops past the end of the disk; a verify after it
abbrev pub written_past_the_end : List Line
written_past_the_end =
    Out 0x1F6 0xE0 ∷ Out 0x1F2 0x03 ∷ Out 0x1F3 0x02 ∷ Out 0x1F7 0x30 ∷ Level false ∷ Fill 255 0x0909 ∷ In 0x1F2 0x03
    ∷ Level false ∷ OutWord 0x0909
    ∷ Level true ∷ In 0x1F2 0x02 ∷ In 0x1F3 0x03 ∷ In 0x1F7 0x58 ∷ Level false ∷ Fill 256 0x0909 ∷ Level true
    ∷ In 0x1F7 0x51 ∷ In 0x1F1 0x10
    ∷ In 0x1F2 0x01 ∷ In 0x1F3 0x04 ∷ Out 0x1F3 0x02 ∷ Out 0x1F7 0x40 ∷ In 0x1F7 0x50 ∷ []

-- the last word of a write comes with a request, and the address stays at its sector
abbrev pub last_sector_written : List Line
last_sector_written =
    Out 0x1F6 0xE0 ∷ Out 0x1F2 0x01 ∷ Out 0x1F3 0x03 ∷ Out 0x1F7 0x30 ∷ Fill 256 0x0909 ∷ Level true ∷ In 0x1F7 0x50
    ∷ In 0x1F2 0x00 ∷ In 0x1F3 0x03
    ∷ InWord 0xFFFF ∷ []

-- a sector at or past the disk's end is not found; verify looks for a bad one too
abbrev pub not_found : List Line
not_found =
    Bad 3 ∷ Out 0x1F6 0xE0 ∷ Out 0x1F3 0x04 ∷ Out 0x1F7 0x30 ∷ In 0x1F7 0x51 ∷ In 0x1F1 0x10 ∷ Out 0x1F3 0x02
    ∷ Out 0x1F2 0x02 ∷ Out 0x1F7 0x40
    ∷ Level true ∷ In 0x1F7 0x51 ∷ In 0x1F1 0x40 ∷ In 0x1F2 0x01 ∷ In 0x1F3 0x03 ∷ []

pub record Writes : Type 0 where
  pub past_the_end : Gives (disk_of 4 counting_bytes) written_past_the_end
  pub to_its_end : Gives (disk_of 4 counting_bytes) last_sector_written
  pub fails : Answers not_found

-- a command ends a transfer, and the words that came of its sector are lost; no register is written while words move
abbrev pub command_ends : List Line
command_ends =
    Out 0x1F6 0xE0 ∷ Out 0x1F2 0x02 ∷ Out 0x1F7 0x30 ∷ Fill 254 0x0606 ∷ Out 0x1F1 0x09 ∷ Out 0x1F2 0x09
    ∷ Out 0x1F3 0x09 ∷ Out 0x1F4 0x09 ∷ Out 0x1F5 0x09
    ∷ Out 0x1F6 0x00 ∷ In 0x1F2 0x02 ∷ In 0x1F3 0x01 ∷ In 0x1F4 0x00 ∷ In 0x1F5 0x00 ∷ In 0x1F6 0xE0 ∷ OutWord 0x0606
    ∷ Out 0x1F7 0xE7 ∷ Level true
    ∷ In 0x1F7 0x50 ∷ OutWord 0x0606 ∷ InWord 0xFFFF ∷ Out 0x1F3 0x01 ∷ Out 0x1F7 0x20 ∷ InLong 0x0202_0202
    ∷ Out 0x1F7 0xEF ∷ In 0x1F1 0x04 ∷ []

unfoldable pub CommandEnds : Type 0
CommandEnds = Gives (disk_of 4 counting_bytes) command_ends

-- a word that is read while a sector is written, or written while a sector or the words of IDENTIFY DEVICE are read, is
-- lost, and the command goes on with its next word
abbrev pub words_the_wrong_way : List Line
words_the_wrong_way =
    Out 0x1F6 0xE0 ∷ Out 0x1F2 0x01 ∷ Out 0x1F3 0x01 ∷ Out 0x1F7 0x30 ∷ OutWord 0x1111 ∷ InWord 0xFFFF
    ∷ InLong 0xFFFF_FFFF ∷ In 0x3F6 0x58 ∷ Fill 254 0x2222 ∷ In 0x3F6 0x58 ∷ OutWord 0x2222 ∷ In 0x3F6 0x50
    ∷ Out 0x1F7 0x20 ∷ InWord 0x1111 ∷ OutWord 0x4444 ∷ OutLong 0x6666_5555 ∷ In 0x3F6 0x58 ∷ InWord 0x2222
    ∷ Out 0x1F7 0xEC ∷ InWord 0x0040 ∷ OutWord 0x7777 ∷ In 0x3F6 0x58 ∷ InWord 0x0001 ∷ []

unfoldable pub WordsTheWrongWay : Type 0
WordsTheWrongWay = Gives (disk_of 4 counting_bytes) words_the_wrong_way

-- SRST in the middle of a read holds the disk, and leaves the signature when it goes; features stay
abbrev pub reset_in_the_middle : List Line
reset_in_the_middle =
    Out 0x1F1 0x55 ∷ Out 0x1F6 0xE0 ∷ Out 0x1F2 0x02 ∷ Out 0x1F3 0x01 ∷ Out 0x1F7 0x20 ∷ Pass 2 ∷ Out 0x3F6 0x06
    ∷ Level false ∷ In 0x1F7 0x80
    ∷ In 0x3F6 0x80 ∷ In 0x1F2 0x02 ∷ In 0x1F3 0x01 ∷ InWord 0xFFFF ∷ Out 0x1F2 0x55 ∷ Out 0x1F7 0x20 ∷ In 0x1F2 0x02
    ∷ Out 0x3F6 0x00 ∷ In 0x1F1 0x01
    ∷ In 0x1F2 0x01 ∷ In 0x1F3 0x01 ∷ In 0x1F4 0x00 ∷ In 0x1F5 0x00 ∷ In 0x1F6 0xA0 ∷ In 0x1F7 0x50 ∷ Level false
    ∷ InWord 0xFFFF ∷ Out 0x1F7 0xEF
    ∷ In 0x1F7 0x50 ∷ []

-- SRST takes the request away
abbrev pub request_under_reset : List Line
request_under_reset =
    Out 0x1F7 0xE7 ∷ Level true ∷ Out 0x3F6 0x02 ∷ Level false ∷ Out 0x3F6 0x00 ∷ Level true ∷ Out 0x3F6 0x04
    ∷ Level false ∷ Out 0x3F6 0x00
    ∷ Level false ∷ []

-- drive 1 is not there: its registers are drive 0's, and it takes the diagnosis alone
abbrev pub drive_one : List Line
drive_one =
    Out 0x1F6 0xF0 ∷ In 0x1F6 0xF0 ∷ In 0x1F7 0x00 ∷ In 0x3F6 0x00 ∷ Out 0x1F7 0xEC ∷ Level false ∷ InWord 0xFFFF
    ∷ Out 0x1F2 0x33 ∷ In 0x1F2 0x33
    ∷ Out 0x3F6 0x04 ∷ In 0x1F7 0x00 ∷ Out 0x1F7 0x90 ∷ In 0x1F2 0x33 ∷ Out 0x3F6 0x02 ∷ Out 0x1F6 0xB0 ∷ Out 0x1F7 0x90
    ∷ In 0x1F6 0xA0 ∷ In 0x1F1 0x01
    ∷ Level false ∷ Out 0x3F6 0x00 ∷ Level true ∷ Out 0x1F6 0x10 ∷ Level false ∷ In 0x1F7 0x00 ∷ Out 0x1F6 0x00
    ∷ Level false ∷ []

pub record Resets : Type 0 where
  pub in_the_middle : Answers reset_in_the_middle
  pub of_the_request : Answers request_under_reset
  pub of_drive_one : Answers drive_one

-- each register by itself, and what a hard reset leaves; the diagnosis leaves the signature and a request
abbrev pub each_register : List Line
each_register =
    Out 0x1F2 0x12 ∷ Out 0x1F3 0x23 ∷ Out 0x1F4 0x34 ∷ Out 0x1F5 0x45 ∷ Out 0x1F6 0x46 ∷ In 0x1F1 0x01 ∷ In 0x1F2 0x12
    ∷ In 0x1F3 0x23 ∷ In 0x1F4 0x34
    ∷ In 0x1F5 0x45 ∷ In 0x1F6 0xE6 ∷ In 0x1F7 0x50 ∷ Out 0x1F7 0x90 ∷ Level true ∷ In 0x1F7 0x50 ∷ In 0x1F1 0x01
    ∷ In 0x1F2 0x01 ∷ In 0x1F3 0x01
    ∷ In 0x1F4 0x00 ∷ In 0x1F5 0x00 ∷ In 0x1F6 0xA0 ∷ []

-- geometry, features, and a command that there is not
abbrev pub other_commands : List Line
other_commands =
    Out 0x1F2 0x3F ∷ Out 0x1F6 0xAF ∷ Out 0x1F7 0x91 ∷ Level true ∷ In 0x1F7 0x50 ∷ In 0x1F1 0x00 ∷ Out 0x1F6 0xAE
    ∷ Out 0x1F7 0x91 ∷ In 0x1F7 0x51
    ∷ In 0x1F1 0x04 ∷ Out 0x1F6 0xAF ∷ Out 0x1F2 0x3E ∷ Out 0x1F7 0x91 ∷ In 0x1F1 0x04 ∷ Out 0x1F1 0x67 ∷ Out 0x1F7 0xEF
    ∷ In 0x1F1 0x04 ∷ Out 0x1F7 0x21
    ∷ Level true ∷ In 0x1F7 0x51 ∷ In 0x1F1 0x04 ∷ []

-- a hard reset, after which nIEN and features are 0
abbrev pub hard_reset : List Line
hard_reset =
    Out 0x1F1 0x55 ∷ Out 0x1F2 0x77 ∷ Out 0x3F6 0x02 ∷ Out 0x1F7 0xE7 ∷ Reset ∷ Level false ∷ In 0x1F2 0x01
    ∷ In 0x1F6 0xA0 ∷ In 0x1F1 0x01
    ∷ Out 0x1F7 0x21 ∷ Level true ∷ Out 0x1F7 0xEF ∷ In 0x1F1 0x04 ∷ Out 0x1F6 0xE0 ∷ Out 0x1F7 0x20 ∷ Reset
    ∷ In 0x1F7 0x50 ∷ InWord 0xFFFF ∷ []

-- whether a feature is taken
abbrev pub feature : (byte status error : ℕ) → List Line
feature byte status error = Out 0x1F1 byte ∷ Out 0x1F7 0xEF ∷ Level true ∷ In 0x1F7 status ∷ In 0x1F1 error ∷ []

-- the marks of bad sectors stay over a hard reset
abbrev pub bad_over_a_reset : List Line
bad_over_a_reset = Bad 1 ∷ Reset ∷ Out 0x1F6 0xE0 ∷ Out 0x1F7 0x20 ∷ In 0x1F7 0x51 ∷ In 0x1F1 0x40 ∷ []

-- a command takes away the request of the one before it
abbrev pub request_of_before : List Line
request_of_before = Out 0x1F6 0xE0 ∷ Out 0x1F7 0xE7 ∷ Level true ∷ Out 0x1F7 0x30 ∷ Level false ∷ In 0x3F6 0x58 ∷ []

pub record Commands : Type 0 where
  pub registers : Answers each_register
  pub others : Answers other_commands
  pub reset : Answers hard_reset
  pub reset_keeps_bad : Answers bad_over_a_reset
  pub request_goes : Answers request_of_before
  pub feature_02 : Answers (feature 0x02 0x50 0x00)
  pub feature_03 : Answers (feature 0x03 0x50 0x00)
  pub feature_55 : Answers (feature 0x55 0x50 0x00)
  pub feature_66 : Answers (feature 0x66 0x50 0x00)
  pub feature_82 : Answers (feature 0x82 0x50 0x00)
  pub feature_aa : Answers (feature 0xAA 0x50 0x00)
  pub feature_cc : Answers (feature 0xCC 0x50 0x00)
  pub no_feature_00 : Answers (feature 0x00 0x51 0x04)
  pub no_feature_01 : Answers (feature 0x01 0x51 0x04)
  pub no_feature_67 : Answers (feature 0x67 0x51 0x04)

-- sector 63 of a track by cylinder, head and sector: a read goes on to the next head. There is no sector 0 and no
-- sector 64
abbrev pub by_cylinder_head_and_sector : List Line
by_cylinder_head_and_sector =
    Out 0x1F6 0xA0 ∷ Out 0x1F2 0x02 ∷ Out 0x1F3 0x3F ∷ Out 0x1F7 0x20 ∷ Pass 256 ∷ In 0x1F3 0x01 ∷ In 0x1F6 0xA1
    ∷ Pass 256 ∷ In 0x1F7 0x50
    ∷ In 0x1F2 0x00 ∷ In 0x1F3 0x01 ∷ In 0x1F6 0xA1 ∷ Out 0x1F6 0xA0 ∷ Out 0x1F2 0x01 ∷ Out 0x1F3 0x00 ∷ Out 0x1F7 0x20
    ∷ In 0x1F1 0x10 ∷ Out 0x1F3 0x40 ∷ Out 0x1F7 0x30
    ∷ In 0x1F1 0x10 ∷ Out 0x1F3 0x3F ∷ Out 0x1F7 0x40 ∷ In 0x1F7 0x50 ∷ Out 0x1F6 0xA1 ∷ Out 0x1F3 0x02 ∷ Out 0x1F7 0x30
    ∷ In 0x1F7 0x51 ∷ []

-- a verify goes on to the next cylinder
abbrev pub to_the_next_cylinder : List Line
to_the_next_cylinder =
    Out 0x1F6 0xAF ∷ Out 0x1F2 0x02 ∷ Out 0x1F3 0x3F ∷ Out 0x1F7 0x40 ∷ Level true ∷ In 0x1F7 0x50 ∷ In 0x1F2 0x00
    ∷ In 0x1F3 0x01 ∷ In 0x1F4 0x01
    ∷ In 0x1F5 0x00 ∷ In 0x1F6 0xA0 ∷ []

-- a count of 0 verifies 256 sectors, here from LBA 1 to LBA 256
abbrev pub verify_of_256 : List Line
verify_of_256 =
    Out 0x1F6 0xE0 ∷ Out 0x1F2 0x00 ∷ Out 0x1F3 0x01 ∷ Out 0x1F7 0x40 ∷ In 0x1F7 0x50 ∷ In 0x1F2 0x00 ∷ In 0x1F3 0x00
    ∷ In 0x1F4 0x01 ∷ []

-- the sector that address registers name, the low one first, by the bits of the device register
abbrev pub names : (low mid high device : ℕ) → Option ℕ
names low mid high device = named (record power_on_registers { low = low; mid = mid; high = high; device = device })

-- the address registers once a sector's number was written back
abbrev pub written_back : (device sector : ℕ) → List ℕ
written_back device sector =
    let r = naming (record power_on_registers { device = device }) sector in
    r.low ∷ r.mid ∷ r.high ∷ r.device ∷ []

pub record Addresses : Type 0 where
  pub as_lba : written_back 0xEF 0x104_0302 ≡ (0x02 ∷ 0x03 ∷ 0x04 ∷ 0xE1 ∷ [])
  pub as_chs : written_back 0xAF 258_369 ≡ (0x07 ∷ 0x00 ∷ 0x01 ∷ 0xA5 ∷ [])
  pub as_chs_of_drive : written_back 0xBF 1_071 ≡ (0x01 ∷ 0x01 ∷ 0x00 ∷ 0xB1 ∷ [])
  pub lba : names 0x02 0x03 0x04 0xE1 ≡ Some 0x104_0302
  pub first : names 0x01 0x00 0x00 0xA0 ≡ Some 0
  pub last_of_track : names 0x3F 0x00 0x00 0xA0 ≡ Some 62
  pub next_head : names 0x01 0x00 0x00 0xA1 ≡ Some 63
  pub last_of_cylinder : names 0x3F 0x00 0x00 0xAF ≡ Some 1007
  pub next_cylinder : names 0x01 0x01 0x00 0xA0 ≡ Some 1008
  pub far_cylinder : names 0x01 0x00 0x01 0xA0 ≡ Some 258_048
  pub no_sector_0 : names 0x00 0x01 0x00 0xA0 ≡ None
  pub no_sector_64 : names 0x40 0x00 0x00 0xA0 ≡ None
  pub tracks : (bytes : List ℕ) → Gives (disk_of 64 bytes) by_cylinder_head_and_sector
  pub cylinders : (bytes : List ℕ) → Gives (disk_of 1009 bytes) to_the_next_cylinder
  pub all_256 : (bytes : List ℕ) → Gives (disk_of 257 bytes) verify_of_256

-- ---- IDENTIFY DEVICE

-- 256 words, the first with a request, and none after the last
abbrev pub identified : List Line
identified =
    Out 0x1F7 0xEC ∷ Level true ∷ In 0x1F7 0x58 ∷ InWord 0x0040 ∷ InWord 0x0001 ∷ Pass 58 ∷ InLong 4 ∷ Pass 193
    ∷ In 0x1F7 0x58
    ∷ InWord 0 ∷ Level false ∷ In 0x1F7 0x50 ∷ InWord 0xFFFF ∷ []

abbrev pub words : (sectors : ℕ) → (places : List ℕ) → List ℕ
words sectors places = map (identify_word sectors) places

pub record Identify : Type 0 where
  pub moved : Answers identified
  pub geometry : words 4 (0 ∷ 1 ∷ 2 ∷ 3 ∷ 4 ∷ 5 ∷ 6 ∷ 7 ∷ 8 ∷ 9 ∷ [])
      ≡ (0x0040 ∷ 1 ∷ 0 ∷ 16 ∷ 0 ∷ 0 ∷ 63 ∷ 0 ∷ 0 ∷ 0 ∷ [])
  pub serial_number :
      words 4 (10 ∷ 11 ∷ 12 ∷ 13 ∷ 14 ∷ 15 ∷ 19 ∷ 20 ∷ [])
      ≡ (0x424F ∷ 0x4152 ∷ 0x4430 ∷ 0x3030 ∷ 0x3120 ∷ 0x2020 ∷ 0x2020 ∷ 0 ∷ [])
  pub firmware_revision : words 4 (22 ∷ 23 ∷ 24 ∷ 25 ∷ 26 ∷ []) ≡ (0 ∷ 0x312E ∷ 0x3020 ∷ 0x2020 ∷ 0x2020 ∷ [])
  pub model_number :
      words 4 (27 ∷ 28 ∷ 29 ∷ 30 ∷ 31 ∷ 32 ∷ 46 ∷ 47 ∷ [])
      ≡ (0x424F ∷ 0x4152 ∷ 0x4420 ∷ 0x4449 ∷ 0x534B ∷ 0x2020 ∷ 0x2020 ∷ 0 ∷ [])
  pub capacity :
      words 4 (48 ∷ 49 ∷ 53 ∷ 54 ∷ 55 ∷ 56 ∷ 57 ∷ 58 ∷ 59 ∷ 60 ∷ 61 ∷ 62 ∷ 255 ∷ [])
      ≡ (0 ∷ 0x0200 ∷ 0x0001 ∷ 1 ∷ 16 ∷ 63 ∷ 4 ∷ 0 ∷ 0 ∷ 4 ∷ 0 ∷ 0 ∷ 0 ∷ [])
  pub of_two_cylinders : words 2020 (1 ∷ 54 ∷ 57 ∷ 58 ∷ 60 ∷ 61 ∷ []) ≡ (2 ∷ 2 ∷ 2016 ∷ 0 ∷ 2020 ∷ 0 ∷ [])
  pub of_the_largest : words 65_536 (1 ∷ 54 ∷ 57 ∷ 58 ∷ 60 ∷ 61 ∷ []) ≡ (65 ∷ 65 ∷ 65_520 ∷ 0 ∷ 0 ∷ 1 ∷ [])

-- ---- the length of a disk

pub record Lengths : Type 0 where
  pub taken : map is_disk_length (512 ∷ 2_048 ∷ 33_554_432 ∷ []) ≡ (true ∷ true ∷ true ∷ [])
  pub refused : map is_disk_length (0 ∷ 1 ∷ 511 ∷ 513 ∷ 768 ∷ 2_049 ∷ 33_554_944 ∷ []) ≡ replicate 7 false
  pub sectors : (power_on counting_bytes).medium.bad ≡ replicate 4 false
  pub bytes : (power_on counting_bytes).medium.bytes ≡ counting_bytes
  pub drive : (power_on counting_bytes).drive ≡ power_on_drive

-- ---- the ports

abbrev pub ports : List ℕ
ports = 0x1EF ∷ 0x1F0 ∷ 0x1F1 ∷ 0x1F7 ∷ 0x1F8 ∷ 0x3F5 ∷ 0x3F6 ∷ 0x3F7 ∷ []

abbrev pub data_alone : List Bool
data_alone = false ∷ true ∷ false ∷ false ∷ false ∷ false ∷ false ∷ false ∷ []

pub record DiskPorts : Type 0 where
  pub bytes : map (λ port. is_ata_port port One) ports
      ≡ (false ∷ false ∷ true ∷ true ∷ false ∷ false ∷ true ∷ false ∷ [])
  pub words : map (λ port. is_ata_port port Two) ports ≡ data_alone
  pub double_words : map (λ port. is_ata_port port Four) ports ≡ data_alone
