-- The state of the devices as bytes, over the disk as it was fitted.
use Rattle.std.specs.Prelude.{ℕ, ◌<◌, ◌++◌, List, [], ◌∷◌, Option, Some, None}
use Rattle.std.specs.Int.{w8}
use Rattle.byte_fields.specs.Fields.{Reading, gives, ◌>>=◌, within, flag_byte, flag_field}
use Rattle.board_prelude.specs.{Disk, SystemPort, PlainPorts}
use Rattle.pic_pair.specs.State.{IsPair, pair_bytes, pair_fields, AreLines, lines_bytes, lines_fields}
use Rattle.pit_8254.specs.State.{IsPit, pit_bytes, pit_fields}
use Rattle.cmos_clock.specs.State.{IsClock, clock_bytes, clock_fields}
use Rattle.south_bridge.specs.RoutingState.{AreTriggers, triggers_bytes, triggers_fields}
use Rattle.ata_pio.specs.State.{IsDisk as IsDiskOver, disk_bytes, disk_fields}
use Rattle.board_devices.specs.Devices.{DevicesValue}

-- ---- port 61h: what is kept of the byte written, and the bit that flips after each read

abbrev pub IsSystem : SystemPort → Type 0
IsSystem port = port.kept < 4

abbrev pub system_bytes : SystemPort → List ℕ
system_bytes port = port.kept ∷ flag_byte port.flip ∷ []

unfoldable pub system_fields : Reading SystemPort
system_fields = do
  kept ← within w8 0 3
  flip ← flag_field
  gives (record { kept = kept; flip = flip })

-- ---- the plain ports

abbrev pub IsPlain : PlainPorts → Type 0
IsPlain plain = IsSystem plain.system

abbrev pub plain_bytes : PlainPorts → List ℕ
plain_bytes plain = system_bytes plain.system

unfoldable pub plain_fields : Reading PlainPorts
plain_fields = do
  system ← system_fields
  gives (record { system = system })

-- ---- all but the disk: the pair, the timer, the clock, the edge and level control, the plain ports, INTA# by device
-- number, and the levels that were set from outside, by line

pub record AreMachines (devices : DevicesValue) : Type 0 where
  pub pair : IsPair devices.pair
  pub timer : IsPit devices.timer
  pub clock : IsClock devices.clock
  pub triggers : AreTriggers devices.triggers
  pub plain : IsPlain devices.plain
  pub wires : AreLines devices.wires
  pub irqs : AreLines devices.irqs

unfoldable pub machines_bytes : DevicesValue → List ℕ
machines_bytes devices =
    pair_bytes devices.pair
    ++ (pit_bytes devices.timer
    ++ (clock_bytes devices.clock
    ++ (triggers_bytes devices.triggers
    ++ (plain_bytes devices.plain ++ (lines_bytes devices.wires ++ lines_bytes devices.irqs)))))

-- the disk is still to be read
unfoldable pub machines_fields : Reading DevicesValue
machines_fields = do
  pair ← pair_fields
  timer ← pit_fields
  clock ← clock_fields
  triggers ← triggers_fields
  plain ← plain_fields
  wires ← lines_fields
  irqs ← lines_fields
  gives (record {
    pair = pair;
    timer = timer;
    clock = clock;
    disk = None;
    triggers = triggers;
    plain = plain;
    wires = wires;
    irqs = irqs;
  })

-- ---- the disk, where one is fitted

abbrev pub IsFittedDisk : (fitted : Option (List ℕ)) → Option Disk → Type 0
IsFittedDisk None None = Unit {0}
IsFittedDisk (Some bytes) (Some disk) = IsDiskOver bytes disk
IsFittedDisk _ _ = ⊥

unfoldable pub fitted_bytes : (fitted : Option (List ℕ)) → Option Disk → List ℕ
fitted_bytes (Some bytes) (Some disk) = disk_bytes bytes disk
fitted_bytes _ _ = []

unfoldable pub fitted_fields : (fitted : Option (List ℕ)) → Reading (Option Disk)
fitted_fields None = gives None
fitted_fields (Some bytes) = do
  disk ← disk_fields bytes
  gives (Some disk)

-- ---- all devices

pub record AreDevices (fitted : Option (List ℕ)) (devices : DevicesValue) : Type 0 where
  pub machines : AreMachines devices
  pub disk : IsFittedDisk fitted devices.disk

unfoldable pub devices_bytes : (fitted : Option (List ℕ)) → DevicesValue → List ℕ
devices_bytes fitted devices = machines_bytes devices ++ fitted_bytes fitted devices.disk

unfoldable pub devices_fields : (fitted : Option (List ℕ)) → Reading DevicesValue
devices_fields fitted = do
  machines ← machines_fields
  disk ← fitted_fields fitted
  gives (record machines { disk = disk })
