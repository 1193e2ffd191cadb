-- What an ATA disk keeps, and what its status register and its interrupt line show of it.
use Rattle.std.specs.Prelude.{ℕ, ◌+◌, ◌*◌, ◌/◌, ◌%◌, ◌==◌, Bool, true, false, not, ◌&&◌, if◌then◌else◌, List, ◌++◌}
use Rattle.std.specs.Prelude.{length, take, drop, replicate, slice_index, slice_index_or, slice_set, bit_or, nat_lt}
use Rattle.std.specs.Prelude.{nat_le}
use Rattle.board_base.specs.Bits.{is_bit}

-- The sectors of 512 bytes: the bytes of all, with sector s from place 512 * s on, and for each
-- sector whether it is bad.
pub record Medium : Type 0 where
  pub bytes : List ℕ
  pub bad : List Bool

-- The registers of the task file, one byte each, and the two bits that device control keeps: SRST,
-- which holds the disk in reset, and nIEN, which keeps its interrupt from the line
-- (ATA, Command Block registers; Device Control register).
pub record Registers : Type 0 where
  pub features : ℕ
  pub error : ℕ
  pub count : ℕ
  pub low : ℕ
  pub mid : ℕ
  pub high : ℕ
  pub device : ℕ
  pub srst : Bool
  pub nien : Bool

-- What is under way: nothing; nothing, since the last command ended with an error; a sector that is
-- read, with the word of it that comes next; a sector that is written, with the bytes that came so
-- far; the words of IDENTIFY DEVICE, with the one that comes next.
pub data Activity : Type 0 where
  Ready : Activity
  Failed : Activity
  Reading : (sector : ℕ) → (word : ℕ) → Activity
  Writing : (sector : ℕ) → (bytes : List ℕ) → Activity
  Identifying : (word : ℕ) → Activity

-- The drive: its registers, what it does, and whether it has an interrupt request.
pub record Drive : Type 0 where
  pub registers : Registers
  pub activity : Activity
  pub request : Bool

pub record Disk : Type 0 where
  pub medium : Medium
  pub drive : Drive

-- how many sectors there are
abbrev pub sectors_of : Medium → ℕ
sectors_of medium = length medium.bad

-- whether a sector is bad
abbrev pub is_bad : Medium → ℕ → Bool
is_bad medium sector = slice_index_or medium.bad sector false

-- a word of a sector, its lower byte first (ATA, Data register)
abbrev pub word_at : Medium → ℕ → ℕ → ℕ
word_at medium sector word =
    slice_index medium.bytes (512 * sector + 2 * word) + 256 * slice_index medium.bytes (512 * sector + 2 * word + 1)

-- the 512 bytes of a sector
abbrev pub sector_bytes : Medium → ℕ → List ℕ
sector_bytes medium sector = take 512 (drop (512 * sector) medium.bytes)

-- the sectors once a sector was written: it holds these bytes, and is no longer bad
abbrev pub stored : Medium → ℕ → List ℕ → Medium
stored medium sector bytes = record {
  bytes = take (512 * sector) medium.bytes ++ (bytes ++ drop (512 * sector + 512) medium.bytes);
  bad = slice_set medium.bad sector false;
}

-- the sectors once a sector, if there is one of this number, became bad
abbrev pub marked : Medium → ℕ → Medium
marked medium sector = record medium { bad = slice_set medium.bad sector true }

-- a disk has 1 to 65,536 whole sectors of 512 bytes
abbrev pub is_disk_length : ℕ → Bool
is_disk_length n = (n % 512 == 0) && ((nat_lt 0 n) && (nat_le n (512 * 65536)))

-- bits of the device register: 6 addresses by LBA, 4 chooses drive 1, which is not there (ATA, Device/Head register)
abbrev pub is_lba : Registers → Bool
is_lba r = is_bit r.device 6

abbrev pub is_drive_one : Registers → Bool
is_drive_one r = is_bit r.device 4

-- what the device register keeps of a byte written: bits 7 and 5 read as 1 (ATA, Device/Head register)
abbrev pub device_byte : ℕ → ℕ
device_byte n = bit_or n 0xA0

-- The signature: the registers after a reset or a diagnosis (ATA, EXECUTE DEVICE DIAGNOSTIC; software reset). Features
-- and device control stay.
abbrev pub signed : Registers → Registers
signed r = record r { error = 0x01; count = 0x01; low = 0x01; mid = 0x00; high = 0x00; device = 0xA0 }

-- the drive at a signature, with no transfer and no request
abbrev pub reset_drive : Registers → Drive
reset_drive r = record { registers = signed r; activity = Ready; request = false }

-- the registers as power and a hard reset leave them
abbrev pub power_on_registers : Registers
power_on_registers = record {
  features = 0x00;
  error = 0x01;
  count = 0x01;
  low = 0x01;
  mid = 0x00;
  high = 0x00;
  device = 0xA0;
  srst = false;
  nien = false;
}

-- the drive at power-on and after a hard reset
abbrev pub power_on_drive : Drive
power_on_drive = record { registers = power_on_registers; activity = Ready; request = false }

-- the disk that holds these bytes, at power-on: no sector is bad
abbrev pub power_on : List ℕ → Disk
power_on bytes = record {
  medium = record { bytes = bytes; bad = replicate (length bytes / 512) false };
  drive = power_on_drive;
}

-- the status of what is under way: DRDY and DSC, with ERR after an error, or with DRQ while words are to move
-- (ATA, Status register)
abbrev pub ready_status : ℕ
ready_status = 0x50

abbrev pub error_status : ℕ
error_status = 0x51

abbrev pub data_status : ℕ
data_status = 0x58

abbrev pub activity_status : Activity → ℕ
activity_status Ready = ready_status
activity_status Failed = error_status
activity_status (Reading sector word) = data_status
activity_status (Writing sector bytes) = data_status
activity_status (Identifying word) = data_status

-- BSY alone (ATA, Status register)
abbrev pub busy_status : ℕ
busy_status = 0x80

-- the status: 0 for drive 1, and busy while SRST holds the disk (ATA, Device Control register; a device that is absent)
abbrev pub status_of : Drive → ℕ
status_of drive =
    if is_drive_one drive.registers then 0x00
    else (if drive.registers.srst then busy_status else activity_status drive.activity)

-- whether DRQ of the status is 1
abbrev pub is_drq : Drive → Bool
is_drq drive = status_of drive == data_status

-- the interrupt line: a request that nIEN does not keep back and that is not drive 1's (ATA, INTRQ; Device Control
-- register, nIEN)
abbrev pub is_interrupt : Drive → Bool
is_interrupt drive = drive.request && (not drive.registers.nien && not (is_drive_one drive.registers))
