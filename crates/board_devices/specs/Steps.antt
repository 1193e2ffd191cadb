-- What an access at a port does to the devices, before the lines reach the pair.
use Rattle.std.specs.Prelude.{ℕ, ◌==◌, Bool, true, false, Option, Some, option_map}
use Rattle.board_prelude.specs.{option_map_or, PortAccess, Dev, Pic0, Pic1, Pit, Elcr, Ata, Disk, largest_of, port_byte}
use Rattle.board_prelude.specs.{port_read, read_value, trigger_byte, read_of, plain_value, out_of, is_interrupt}
use Rattle.board_prelude.specs.{pair_accessed, timer_accessed, clock_accessed, disk_accessed, triggers_accessed}
use Rattle.board_prelude.specs.{plain_accessed}
use Rattle.device_spec.specs.Clock.{interrupt_line}
use Rattle.board_base.specs.declared.target.Dev.TheVariants.{Clock}
use Rattle.device_spec.specs.PortNames.{elcr_ports}
use Rattle.board_devices.specs.Devices.{DevicesValue}

-- what a read gives
unfoldable pub value_read : Dev → PortAccess → DevicesValue → ℕ
value_read Pic0 access devices = port_byte devices.pair access.port
value_read Pic1 access devices = port_byte devices.pair access.port
value_read Pit access devices = (port_read access.port devices.timer).0
value_read Clock access devices = read_value devices.clock access.port
value_read Elcr access devices = trigger_byte devices.triggers (access.port == elcr_ports.1)
value_read Ata access devices =
    option_map_or (λ disk. read_of access.port access.width disk) devices.disk (largest_of access.width)
value_read dev access devices = plain_value dev devices.plain (out_of 2 devices.timer) access.width

-- the disk after an access that reached this device, where one is fitted
abbrev pub fitted_accessed : Option Dev → PortAccess → Option Disk → Option Disk
fitted_accessed (Some Ata) access disk = option_map (λ disk. disk_accessed (Some Ata) access disk) disk
fitted_accessed _ access disk = disk

-- all devices after an access that reached this one
unfoldable pub devices_accessed : Option Dev → PortAccess → DevicesValue → DevicesValue
devices_accessed reached access devices = record {
  pair = pair_accessed reached access devices.pair;
  timer = timer_accessed reached access devices.timer;
  clock = clock_accessed reached access devices.clock;
  disk = fitted_accessed reached access devices.disk;
  triggers = triggers_accessed reached access devices.triggers;
  plain = plain_accessed reached access devices.plain;
  wires = devices.wires;
  irqs = devices.irqs;
}

-- the devices after a read, and after a write
unfoldable pub after_read : Dev → PortAccess → DevicesValue → DevicesValue
after_read dev access devices = devices_accessed (Some dev) (record access { write = false }) devices

unfoldable pub after_write : Dev → PortAccess → DevicesValue → DevicesValue
after_write dev access devices = devices_accessed (Some dev) (record access { write = true }) devices

-- the level of the line that a device drives; where it drives none, 0
abbrev pub driven : Dev → DevicesValue → Bool
driven Pit devices = out_of 0 devices.timer
driven Clock devices = interrupt_line devices.clock
driven Ata devices = option_map_or (λ disk. is_interrupt disk.drive) devices.disk false
driven _ devices = false
