-- The state of a disk as bytes: the drive, and then the sectors over the disk as it was fitted.
use Rattle.std.specs.Prelude.{ℕ, zero, suc, ◌≡◌, ◌/◌, ◌++◌, Bool, true, List, [], ◌∷◌, length, map}
use Rattle.byte_fields.specs.Fields.{Reading as Reader, gives, ◌>>=◌, flag_byte, flag_field}
use Rattle.byte_fields.specs.Pages.{pages_bytes, pages_fields}
use Rattle.device_spec.specs.Ata.State.{Medium, Disk, is_disk_length}
use Rattle.ata_pio.specs.DriveState.{IsDrive, drive_bytes, drive_fields}

-- ---- the sectors: their bytes over those of the disk as it was fitted, in pages of a sector each, and then a flag for
-- each that is bad

abbrev pub sector_size : ℕ
sector_size = 512

abbrev pub count_of : (fitted : List ℕ) → ℕ
count_of fitted = length fitted / sector_size

pub record IsMedium (fitted : List ℕ) (medium : Medium) : Type 0 where
  pub bytes : length medium.bytes ≡ length fitted
  pub bad : length medium.bad ≡ count_of fitted

abbrev pub medium_bytes : (fitted : List ℕ) → Medium → List ℕ
medium_bytes fitted medium = pages_bytes sector_size fitted medium.bytes ++ map flag_byte medium.bad

unfoldable pub flags_fields : (count : ℕ) → Reader (List Bool)
flags_fields zero = gives []
flags_fields (suc count) = do
  flag ← flag_field
  later ← flags_fields count
  gives (flag ∷ later)

unfoldable pub medium_fields : (fitted : List ℕ) → Reader Medium
medium_fields fitted = do
  bytes ← pages_fields sector_size fitted
  bad ← flags_fields (count_of fitted)
  gives (record { bytes = bytes; bad = bad })

-- ---- the disk, over the bytes that it was fitted with

pub record IsDisk (fitted : List ℕ) (disk : Disk) : Type 0 where
  pub size : is_disk_length (length fitted) ≡ true
  pub drive : IsDrive (count_of fitted) disk.drive
  pub medium : IsMedium fitted disk.medium

abbrev pub disk_bytes : (fitted : List ℕ) → Disk → List ℕ
disk_bytes fitted disk = drive_bytes disk.drive ++ medium_bytes fitted disk.medium

unfoldable pub disk_fields : (fitted : List ℕ) → Reader Disk
disk_fields fitted = do
  drive ← drive_fields (count_of fitted)
  medium ← medium_fields fitted
  gives (record { medium = medium; drive = drive })
