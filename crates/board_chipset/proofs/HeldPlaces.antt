-- Where accesses land by the register bytes that a chipset holds.
use Rattle.std.proofs.Common.{◌≡◌, ℕ, List, Option, None, Some, is_some, refl, arith, option_map}
use Rattle.board_prelude.proofs.{Disk, nat_tests}
use Rattle.board_devices.specs.Devices.{HasDisk}

-- a disk is there exactly where one is fitted
pub disk_fitted : (fitted : Option (List ℕ)) (disk : Option Disk) → HasDisk fitted disk → is_some fitted ≡ is_some disk
disk_fitted fitted disk is = grind (arith, nat_tests)
