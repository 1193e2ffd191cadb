-- No access, reset or bad sector changes how many sectors a disk has.
use Rattle.board_prelude.proofs.{common_steps, nat_tests, PortAccess, Dev, Setup, Disk, IsDisk, disk_with, disk_of}
use Rattle.std.proofs.Common.{◌≡◌, ℕ, true, false, eqb, [], Option, Some, arith, option_map, length-set}
use Rattle.std.proofs.lemmas.List.{length-replicate}
use Rattle.device_spec.specs.Ata.State.{sectors_of}
use Rattle.device_spec.specs.Ata.Steps.{word_written, after_bad}
use Rattle.board_devices.specs.Devices.{DevicesValue, HasDisk, sectors_fitted}
use Rattle.board_devices.specs.Steps.{after_read, after_write, devices_accessed, fitted_accessed}

-- ---- the disk

word_written-has : (word : ℕ) (disk : Disk) → sectors_of (word_written word disk).medium ≡ sectors_of disk.medium
unfolding word_written
word_written-has word disk = grind (arith, nat_tests, eqb, length-set)

-- ---- where one is fitted

pub fitted_spoiled : (sector : ℕ) (disk : Option Disk) →
    sectors_fitted (option_map (λ disk. after_bad sector disk) disk) ≡ sectors_fitted disk
fitted_spoiled sector disk = grind (arith, nat_tests, length-set)

-- ---- an access

access_fitted : (reached : Option Dev) (access : PortAccess) (disk : Option Disk) →
    sectors_fitted (fitted_accessed reached access disk) ≡ sectors_fitted disk
access_fitted reached access disk = grind (arith, nat_tests, common_steps, sectors_of, word_written-has)

pub read_fitted : (dev : Dev) (access : PortAccess) (devices : DevicesValue) →
    sectors_fitted (after_read dev access devices).disk ≡ sectors_fitted devices.disk
unfolding after_read devices_accessed
read_fitted dev access devices = access_fitted (Some dev) (record access { write = false }) devices.disk

pub write_fitted : (dev : Dev) (access : PortAccess) (devices : DevicesValue) →
    sectors_fitted (after_write dev access devices).disk ≡ sectors_fitted devices.disk
unfolding after_write devices_accessed
write_fitted dev access devices = access_fitted (Some dev) (record access { write = true }) devices.disk

-- ---- at power-on

pub opened_has : (setup : Setup) (devices : DevicesValue) → IsDisk setup.disk → devices.disk ≡ disk_of setup [] →
    HasDisk setup.disk devices.disk
unfolding disk_with
opened_has setup devices is opened = grind (arith, nat_tests, common_steps, length-replicate)
