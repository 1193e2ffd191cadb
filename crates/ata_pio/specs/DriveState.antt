-- The state of the drive as bytes: the registers, what is under way, and the request.
use Rattle.std.specs.Prelude.{ℕ, ◌≡◌, ◌-◌, ◌*◌, ◌/◌, ◌<◌, ◌==◌, ◌++◌, if◌then◌else◌, nat_lt, List, [], ◌∷◌, length}
use Rattle.std.specs.Int.{w8, w32, to_le_bytes}
use Rattle.byte_fields.specs.Fields.{Reading as Reader, gives, ◌>>=◌, within, plain, flag_byte, flag_field, bound_where}
use Rattle.device_spec.specs.Ata.State.{Registers, Activity, Ready, Failed, Reading, Writing, Identifying, Drive}
use Rattle.ata_pio.specs.View.{activity_of}
use Rattle.ata_pio.specs.declared.drive_state.UnderWay.{UnderWay}

-- ---- the registers of the task file, and SRST and nIEN of device control

pub record AreRegisters (r : Registers) : Type 0 where
  pub features : r.features < 256
  pub error : r.error < 256
  pub count : r.count < 256
  pub low : r.low < 256
  pub mid : r.mid < 256
  pub high : r.high < 256
  pub device : r.device < 256

abbrev pub registers_bytes : Registers → List ℕ
registers_bytes r =
    r.features ∷ r.error ∷ r.count ∷ r.low ∷ r.mid ∷ r.high ∷ r.device ∷ flag_byte r.srst ∷ flag_byte r.nien ∷ []

unfoldable pub registers_fields : Reader Registers
registers_fields = do
  features ← within w8 0 255
  error ← within w8 0 255
  count ← within w8 0 255
  low ← within w8 0 255
  mid ← within w8 0 255
  high ← within w8 0 255
  device ← within w8 0 255
  srst ← flag_field
  nien ← flag_field
  gives (record {
    features = features;
    error = error;
    count = count;
    low = low;
    mid = mid;
    high = high;
    device = device;
    srst = srst;
    nien = nien;
  })

-- ---- what is under way: its number, its sector, its word, and the bytes of the sector that came. From `moves_words`
-- on it has a word that comes next, above that a sector too, and above that the bytes that came

-- the sector is one of the disk's, and one of its 256 words comes next
abbrev pub IsActivity : (sectors : ℕ) → Activity → Type 0
IsActivity sectors Ready = Unit {0}
IsActivity sectors Failed = Unit {0}
IsActivity sectors (Reading sector word) = (sector < sectors) × (word < 256)
IsActivity sectors (Writing sector bytes) =
    (sector < sectors) × (length bytes < 512) × (length bytes ≡ 2 * (length bytes / 2))
IsActivity sectors (Identifying word) = word < 256

abbrev pub number_of : Activity → ℕ
number_of Ready = 0
number_of Failed = 1
number_of (Identifying word) = 2
number_of (Reading sector word) = 3
number_of (Writing sector bytes) = 4

abbrev pub sector_of : Activity → ℕ
sector_of Ready = 0
sector_of Failed = 0
sector_of (Identifying word) = 0
sector_of (Reading sector word) = sector
sector_of (Writing sector bytes) = sector

abbrev pub next_word_of : Activity → ℕ
next_word_of Ready = 0
next_word_of Failed = 0
next_word_of (Identifying word) = word
next_word_of (Reading sector word) = word
next_word_of (Writing sector bytes) = length bytes / 2

abbrev pub came_of : Activity → List ℕ
came_of Ready = []
came_of Failed = []
came_of (Identifying word) = []
came_of (Reading sector word) = []
came_of (Writing sector bytes) = bytes

abbrev pub activity_bytes : Activity → List ℕ
activity_bytes a = number_of a ∷ (to_le_bytes w32 (sector_of a) ++ (next_word_of a ∷ came_of a))

-- how many bytes came
abbrev pub came_size : (number word : ℕ) → ℕ
came_size number word = bound_where (nat_lt 3 number) (2 * word)

abbrev pub activity_with : (number sector word : ℕ) → (came : List ℕ) → Activity
activity_with number sector word came =
    if number == 0 then Ready
    else (if number == 1 then Failed
    else (if number == 2 then Identifying word
    else (if number == 3 then Reading sector word
    else Writing sector came)))

unfoldable pub activity_fields : (sectors : ℕ) → Reader Activity
activity_fields sectors = do
  number ← within w8 0 4
  sector ← within w32 0 (bound_where (nat_lt 2 number) (sectors - 1))
  word ← within w8 0 (bound_where (nat_lt 1 number) 255)
  came ← plain (came_size number word)
  gives (activity_with number sector word came)

-- ---- the drive

pub record IsDrive (sectors : ℕ) (drive : Drive) : Type 0 where
  pub registers : AreRegisters drive.registers
  pub activity : IsActivity sectors drive.activity

abbrev pub drive_bytes : Drive → List ℕ
drive_bytes drive =
    registers_bytes drive.registers ++ (activity_bytes drive.activity ++ flag_byte drive.request ∷ [])

unfoldable pub drive_fields : (sectors : ℕ) → Reader Drive
drive_fields sectors = do
  registers ← registers_fields
  activity ← activity_fields sectors
  request ← flag_field
  gives (record { registers = registers; activity = activity; request = request })

-- what a value of this crate stands for
abbrev pub under_way_view : UnderWay → Activity
under_way_view under_way = activity_of under_way.buffer under_way.progress
