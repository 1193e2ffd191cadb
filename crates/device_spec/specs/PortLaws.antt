-- What one may expect of the table of ports.
use Rattle.std.specs.Prelude.{◌≡◌, ℕ, true, Some, None}
use Rattle.board_base.specs.declared.target.Dev.{Dev}
use Rattle.board_base.specs.Bits.{is_within}
use Rattle.device_spec.specs.PortNames.{config_data_ports}
use Rattle.device_spec.specs.PortTable.{is_port_of, device_at}

-- no two devices take the same access, so that the order of the lines does not matter
abbrev pub PortsApart : Type 0
PortsApart = (dev : Dev) (port size : ℕ) → is_port_of dev port size ≡ true → device_at port size ≡ Some dev

-- and none takes one at the ports of configuration data
abbrev pub ConfigApart : Type 0
ConfigApart =
    (port size : ℕ) → is_within config_data_ports.0 config_data_ports.1 port ≡ true → device_at port size ≡ None
