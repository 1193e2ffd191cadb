-- The state of the devices is spelled and read back.
use Rattle.board_prelude.proofs.{nat_tests, Disk, IsDisk}
use Rattle.std.proofs.Common.{◌≡◌, ℕ, ◌+◌, List, Option, Some, None, refl, ap, arith}
use Rattle.byte_fields.proofs.Formats.{IsFormat, fields_format, ◌then◌, ◌&◌, last_field}
use Rattle.pic_pair.proofs.StateFormat.{pair_format, lines_format}
use Rattle.pit_8254.proofs.StateFormat.{pit_format}
use Rattle.pit_8254.proofs.Saved.{joined}
use Rattle.cmos_clock.proofs.StateFormat.{clock_format}
use Rattle.south_bridge.proofs.RoutingFormats.{triggers_format}
use Rattle.ata_pio.specs.State.{IsDisk as IsDiskOver}
use Rattle.ata_pio.proofs.StateFormats.{most_bytes, disk_format}
use Rattle.board_devices.specs.Devices.{DevicesValue}
use Rattle.board_devices.specs.State.{IsSystem, system_bytes, system_fields, IsPlain, plain_bytes, plain_fields}
use Rattle.board_devices.specs.State.{AreMachines, machines_bytes, machines_fields, IsFittedDisk, fitted_bytes}
use Rattle.board_devices.specs.State.{fitted_fields, AreDevices, devices_bytes, devices_fields}
use Rattle.board_devices.proofs.DeviceLemmas.{disk_length}

-- what is added in two parts is added in one
pub ruleset saving = (joined, nat_tests)

-- ---- port 61h

pub system_format : IsFormat 2 system_fields system_bytes IsSystem
unfolding system_fields
system_format = grind (arith, nat_tests)

-- ---- the plain ports

plain_format : IsFormat 2 plain_fields plain_bytes IsPlain
unfolding plain_fields
plain_format = fields_format (last_field _ system_format) (λ p is. ((p.system, is), refl)) (λ t. (t.1, refl))

-- ---- all but the disk

abbrev AreBareMachines : DevicesValue → Type 0
AreBareMachines devices = AreMachines devices × (devices.disk ≡ None)

machines_format : IsFormat 263 machines_fields machines_bytes AreBareMachines
unfolding machines_fields machines_bytes
machines_format =
    fields_format
    (pair_format then λ pair good.
    pit_format then λ timer good.
    clock_format then λ clock good.
    triggers_format then λ triggers good.
    plain_format then λ plain good.
    lines_format then λ wires good.
    last_field _ lines_format)
    (λ d is.
    let m = is.0 in (
      (d.pair, m.pair) & (d.timer, m.timer) & (d.clock, m.clock) & (d.triggers, m.triggers) & (d.plain, m.plain)
          & (d.wires, m.wires) & (d.irqs, m.irqs),
      ap (λ (disk : Option Disk). record d { disk = disk }) is.1,
    ))
    (λ t. ((assumption, refl), refl))

-- ---- the disk, where one is fitted

abbrev fitted_most : Option (List ℕ) → ℕ
fitted_most None = 0
fitted_most (Some bytes) = most_bytes bytes

some_fitted : (bytes : List ℕ) (disk : Option Disk) → IsFittedDisk (Some bytes) disk →
    (t : (over : Disk) × IsDiskOver bytes over) × (disk ≡ Some t.0)
some_fitted bytes None is = absurd is
some_fitted bytes (Some disk) is = ((disk, is), refl)

fitted_format : (fitted : Option (List ℕ)) → IsDisk fitted →
    IsFormat (fitted_most fitted) (fitted_fields fitted) (fitted_bytes fitted) (IsFittedDisk fitted)
unfolding fitted_fields fitted_bytes
fitted_format None is = grind (arith, nat_tests)
fitted_format (Some bytes) is =
    fields_format (last_field _ (disk_format bytes (disk_length bytes is))) (some_fitted bytes) (λ t. (t.1, refl))

-- ---- all devices

abbrev pub most_of : Option (List ℕ) → ℕ
most_of fitted = 263 + fitted_most fitted

pub devices_format : (fitted : Option (List ℕ)) → IsDisk fitted →
    IsFormat (most_of fitted) (devices_fields fitted) (devices_bytes fitted) (AreDevices fitted)
unfolding devices_fields devices_bytes machines_bytes
devices_format fitted is =
    fields_format
    (machines_format then λ machines good.
    last_field _ (fitted_format fitted is))
    (λ d are. ((record d { disk = None }, (grind (arith, nat_tests, are.machines), refl)) & (d.disk, are.disk), refl))
    (λ t. (record { machines = grind (arith, nat_tests, t.1.0); disk = t.2.1 }, refl))
