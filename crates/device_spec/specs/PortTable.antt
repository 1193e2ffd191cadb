-- The ports of the devices, one line a device. A port that no line lists is a card's, or nobody's.
use Rattle.std.specs.Prelude.{ℕ, ◌==◌, Bool, false, ◌&&◌, ◌||◌, if◌then◌else◌, List, [], ◌∷◌, Option, Some, None}
use Rattle.board_base.specs.declared.target.Dev.{Dev}
use Rattle.board_base.specs.declared.target.Dev.TheVariants.{Confadd, Reset, Pic0, Pic1, Pit, System, Keyboard, Clock}
use Rattle.board_base.specs.declared.target.Dev.TheVariants.{Elcr, Ata}
use Rattle.board_base.specs.Bits.{is_within}
use Rattle.device_spec.specs.declared.port.Select.{Select}
use Rattle.device_spec.specs.declared.port.Select.TheVariants.{Always, XbcsBit0, XbcsBit1, IdeChannel}
use Rattle.device_spec.specs.PortNames.{config_address_port, reset_control_port, master_ports, slave_ports, elcr_ports}
use Rattle.device_spec.specs.PortNames.{timer_ports, system_port, keyboard_data_port, keyboard_command_port}
use Rattle.device_spec.specs.PortNames.{clock_ports, disk_data_port, disk_ports, disk_control_port}

-- some ports, and how many bytes an access that they take has
pub record Ports : Type 0 where
  pub first : ℕ
  pub last : ℕ
  pub sizes : List ℕ

-- one line: the ports of a device, and what selects it
pub record Line : Type 0 where
  pub ports : List Ports
  pub select : Select

abbrev pub line : List Ports → Select → Line
line ports select = record { ports = ports; select = select }

-- registers of one byte, in a range and alone, and those of other widths
abbrev pub bytes : ℕ × ℕ → Ports
bytes range = record { first = range.0; last = range.1; sizes = 1 ∷ [] }

abbrev pub byte : ℕ → Ports
byte port = bytes (port, port)

abbrev pub wide : ℕ → List ℕ → Ports
wide port sizes = record { first = port; last = port; sizes = sizes }

-- the table
abbrev pub device_line : Dev → Line
device_line Confadd = line (wide config_address_port (4 ∷ []) ∷ []) Always
device_line Reset = line (byte reset_control_port ∷ []) Always
device_line Pic0 = line (bytes master_ports ∷ []) Always
device_line Pic1 = line (bytes slave_ports ∷ []) Always
device_line Pit = line (bytes timer_ports ∷ []) Always
device_line System = line (byte system_port ∷ []) Always
device_line Elcr = line (bytes elcr_ports ∷ []) Always
device_line Keyboard = line (byte keyboard_data_port ∷ byte keyboard_command_port ∷ []) XbcsBit1
device_line Clock = line (bytes clock_ports ∷ []) XbcsBit0
device_line Ata =
    line (wide disk_data_port (2 ∷ 4 ∷ []) ∷ bytes disk_ports ∷ byte disk_control_port ∷ []) IdeChannel
device_line _ = line [] Always

-- the devices that have a line
abbrev pub port_devices : List Dev
port_devices = Confadd ∷ Reset ∷ Pic0 ∷ Pic1 ∷ Pit ∷ System ∷ Elcr ∷ Keyboard ∷ Clock ∷ Ata ∷ []

-- ---- what the table says of an access of so many bytes at a port

abbrev pub is_size : List ℕ → ℕ → Bool
is_size [] size = false
is_size (one ∷ others) size = size == one || is_size others size

abbrev pub takes : List Ports → (port size : ℕ) → Bool
takes [] port size = false
takes (some ∷ others) port size = is_size some.sizes size && is_within some.first some.last port
    || takes others port size

abbrev pub is_port_of : Dev → (port size : ℕ) → Bool
is_port_of dev port size = takes (device_line dev).ports port size

-- whose port it is
abbrev pub first_with : List Dev → (port size : ℕ) → Option Dev
first_with [] port size = None
first_with (dev ∷ others) port size = if is_port_of dev port size then Some dev else first_with others port size

abbrev pub device_at : (port size : ℕ) → Option Dev
device_at port size = first_with port_devices port size

-- what selects a device
abbrev pub select_of : Dev → Select
select_of dev = (device_line dev).select
