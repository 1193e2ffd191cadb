-- What each command does, and what goes on as its words move.
use Rattle.std.specs.Prelude.{ℕ, zero, suc, ◌+◌, ◌==◌, nat_lt, Bool, true, false, not, ◌&&◌, ◌||◌, if◌then◌else◌, []}
use Rattle.std.specs.Prelude.{Option, Some, None, Result, Ok, Err}
use Rattle.device_spec.specs.Ata.State.{Medium, Registers, Ready, Failed, Reading, Writing, Identifying, Drive}
use Rattle.device_spec.specs.Ata.State.{sectors_of, is_bad, reset_drive, is_drive_one}
use Rattle.device_spec.specs.Ata.Address.{track_sectors, named, naming, head_of, left_of, counted}

-- The bits of the error register: ABRT, IDNF and UNC (ATA, Error register).
abbrev pub aborted : ℕ
aborted = 0x04

abbrev pub not_found : ℕ
not_found = 0x10

abbrev pub uncorrectable : ℕ
uncorrectable = 0x40

-- the sector that is named, where the disk has it, or the error
abbrev pub found : Medium → Option ℕ → Result ℕ ℕ
found medium None = Err not_found
found medium (Some sector) = if nat_lt sector (sectors_of medium) then Ok sector else Err not_found

-- the sector that is named, where it can be read, or the error
abbrev pub readable : Medium → Option ℕ → Result ℕ ℕ
readable medium None = Err not_found
readable medium (Some sector) =
    if nat_lt sector (sectors_of medium) then (if is_bad medium sector then Err uncorrectable else Ok sector)
    else Err not_found

-- the end of a command: with a request, or with none
abbrev pub finished : Drive → Drive
finished drive = record drive { activity = Ready; request = true }

abbrev pub ended : Drive → Drive
ended drive = record drive { activity = Ready }

-- the end by an error: status 51, the error byte and a request (ATA, Status register, ERR)
abbrev pub failed : ℕ → Drive → Drive
failed error drive = record {
  registers = record drive.registers { error = error };
  activity = Failed;
  request = true;
}

-- one sector less is left
abbrev pub counted_down : Drive → Drive
counted_down drive = record drive { registers = counted drive.registers }

-- the address moves on to a sector
abbrev pub moved_to : ℕ → Drive → Drive
moved_to sector drive = record drive { registers = naming drive.registers sector }

-- The addressed sector is looked at, and read where it can be (ATA, READ SECTORS; PIO data in commands).
abbrev pub reads_found : Result ℕ ℕ → Drive → Drive
reads_found (Err error) drive = failed error drive
reads_found (Ok sector) drive = record drive { activity = Reading sector 0; request = true }

unfoldable pub begin_read : Medium → Drive → Drive
begin_read medium drive = reads_found (readable medium (named drive.registers)) drive

-- The sector was read to its end (ATA, PIO data in commands).
unfoldable pub sector_read : Medium → ℕ → Drive → Drive
sector_read medium sector drive =
    if left_of drive.registers == 0 then ended (counted_down drive)
    else begin_read medium (moved_to (sector + 1) (counted_down drive))

-- A write begins where its first sector is found, without a request (ATA, WRITE SECTORS; PIO data out commands).
abbrev pub writes_found : Result ℕ ℕ → Bool → Drive → Drive
writes_found (Err error) request drive = failed error drive
writes_found (Ok sector) request drive = record drive { activity = Writing sector []; request = request }

unfoldable pub begin_write : Medium → Bool → Drive → Drive
begin_write medium request drive = writes_found (found medium (named drive.registers)) request drive

-- The last word of a sector came: with it the drive goes on to the next sector, now with a request
-- (ATA, PIO data out commands).
unfoldable pub sector_written : Medium → ℕ → Drive → Drive
sector_written medium sector drive =
    if left_of drive.registers == 0 then finished (counted_down drive)
    else begin_write medium true (moved_to (sector + 1) (counted_down drive))

-- Verify looks at the addressed sector and then at as many more as are left, and moves no word
-- (ATA, READ VERIFY SECTORS).
unfoldable pub verified : Medium → ℕ → Drive → Drive
verified medium zero drive = elim (readable medium (named drive.registers)) [
  | Err error ↦ failed error drive
  | Ok sector ↦ finished (counted_down drive)
]
verified medium (suc left) drive = elim (readable medium (named drive.registers)) [
  | Err error ↦ failed error drive
  | Ok sector ↦ verified medium left (moved_to (sector + 1) (counted_down drive))
]

-- Diagnose leaves the signature, and a request (ATA, EXECUTE DEVICE DIAGNOSTIC).
abbrev pub diagnosed : Drive → Drive
diagnosed drive = finished (reset_drive drive.registers)

-- Set geometry takes the default alone: 63 sectors, and heads 0 to 15 (ATA, INITIALIZE DEVICE PARAMETERS).
abbrev pub geometry_set : Drive → Drive
geometry_set drive =
    if (drive.registers.count == track_sectors) && (head_of drive.registers == 15) then finished drive
    else failed aborted drive

-- the features that the drive takes, each with no effect (ATA, SET FEATURES)
abbrev pub is_feature : ℕ → Bool
is_feature n =
    (n == 0x02) || ((n == 0x03) || ((n == 0x55) || ((n == 0x66) || ((n == 0x82) || ((n == 0xAA) || (n == 0xCC))))))

abbrev pub feature_set : Drive → Drive
feature_set drive = if is_feature drive.registers.features then finished drive else failed aborted drive

-- Identify makes its words ready (ATA, IDENTIFY DEVICE).
abbrev pub identifies : Drive → Drive
identifies drive = record drive { activity = Identifying 0; request = true }

-- The codes of the commands (ATA, Command codes; E7h by ATA/ATAPI-4, FLUSH CACHE).
abbrev pub read_sectors : ℕ
read_sectors = 0x20

abbrev pub write_sectors : ℕ
write_sectors = 0x30

abbrev pub read_verify_sectors : ℕ
read_verify_sectors = 0x40

abbrev pub execute_device_diagnostic : ℕ
execute_device_diagnostic = 0x90

abbrev pub initialize_device_parameters : ℕ
initialize_device_parameters = 0x91

abbrev pub flush_cache : ℕ
flush_cache = 0xE7

abbrev pub identify_device : ℕ
identify_device = 0xEC

abbrev pub set_features : ℕ
set_features = 0xEF

-- What a command does, by its code.
unfoldable pub obeyed : Medium → ℕ → Drive → Drive
obeyed medium code drive =
    if code == read_sectors then begin_read medium drive
    else (if code == write_sectors then begin_write medium false drive
    else (if code == read_verify_sectors then verified medium (left_of drive.registers) drive
    else (if code == execute_device_diagnostic then diagnosed drive
    else (if code == initialize_device_parameters then geometry_set drive
    else (if code == flush_cache then finished drive
    else (if code == identify_device then identifies drive
    else (if code == set_features then feature_set drive
    else failed aborted drive)))))))

-- A command that is taken ends what was under way, its request and its error (ATA, Command register).
abbrev pub begun : Drive → Drive
begun drive = record { registers = record drive.registers { error = 0x00 }; activity = Ready; request = false }

-- SRST keeps every command back, and drive 1, which is not there, all but the diagnosis of both drives
-- (ATA, Device Control register, SRST; EXECUTE DEVICE DIAGNOSTIC).
abbrev pub is_ignored : Registers → ℕ → Bool
is_ignored r code = r.srst || (is_drive_one r && not (code == execute_device_diagnostic))

unfoldable pub commanded : Medium → ℕ → Drive → Drive
commanded medium code drive =
    if is_ignored drive.registers code then drive else obeyed medium code (begun drive)
