-- Why no bytes of a sector are told: each cause with its own number of include/board.h, which stands here once more on
-- purpose. BOARD_NO_SECTOR is 18 and BOARD_BAD_LENGTH is 21.
use Rattle.std.specs.Prelude.{ℕ, ◌≡◌, ◌≢◌, ◌<◌, ◌≤◌, List, length, Option, Some, None}
use Rattle.board_prelude.specs.{Disk, sectors_of, sector_bytes, Entry, disk_of}
use Rattle.board_chipset.specs.Chipset.{Running, IsLeftBy}
use Rattle.machine_records.specs.Bytes.{IsSectorRefusal}

-- a history left a chipset with this disk, or with none, and a sector of it was refused
pub record IsRefused (disk : Option Disk) (sector room status : ℕ) : Type 0 where
  pub chipset : Running
  pub history : List Entry
  pub left : IsLeftBy chipset history
  pub fitted : disk_of chipset.setup history ≡ disk
  pub refused : IsSectorRefusal chipset sector room status

-- without a disk and past its last sector the length does not matter, and else it is the length
pub record EachRefusal : Type 0 where
  pub no_disk : (sector room status : ℕ) → IsRefused None sector room status → status ≡ 18
  pub no_sector : (disk : Disk) (sector room status : ℕ) → IsRefused (Some disk) sector room status →
      sectors_of disk.medium ≤ sector → status ≡ 18
  pub bad_length : (disk : Disk) (sector room status : ℕ) → IsRefused (Some disk) sector room status →
      sector < sectors_of disk.medium → (status ≡ 21) × (room ≢ length (sector_bytes disk.medium sector))
