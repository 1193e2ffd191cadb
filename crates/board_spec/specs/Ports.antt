-- Where a port access lands, and what denied it.
use Rattle.std.specs.Prelude.{ℕ, ◌%◌, ◌^◌, Bool, true, false, not, if◌then◌else◌, Option, Some, None, option_map}
use Rattle.std.specs.Prelude.{unwrap_or}
use Rattle.board_base.specs.declared.access.Width.{Width}
use Rattle.board_base.specs.declared.target.Reg.{Reg}
use Rattle.board_base.specs.declared.target.Dev.{Dev}
use Rattle.board_base.specs.declared.target.Target.{Target}
use Rattle.board_base.specs.declared.target.Target.TheVariants.{Card, Device, Config, Abort}
use Rattle.board_base.specs.declared.target.Denial.{Denial}
use Rattle.board_base.specs.declared.target.Denial.TheVariants.{Register, Confadd, NoRegister}
use Rattle.board_base.specs.Access.{bytes_of}
use Rattle.device_spec.specs.PortTable.{device_at, select_of}
use Rattle.device_spec.specs.declared.port.Select.{Select}
use Rattle.device_spec.specs.declared.port.Select.TheVariants.{Always, XbcsBit0, XbcsBit1, IdeChannel}
use Rattle.board_spec.specs.Setup.{Setup}
use Rattle.board_spec.specs.Bits.{is_bit}
use Rattle.board_spec.specs.Registers.{is_enabled, is_config_port, config_register}
use Rattle.board_spec.specs.RegisterNames.{xbcs, ide_command, idetim, idetim_high}
use Rattle.board_spec.specs.Decode.{Bytes, Window, io_claim, io_shut, command_of}

-- what answers, and what denied the access
pub record Decoded : Type 0 where
  pub target : Target
  pub denial : Option Denial

abbrev pub device : Dev → Decoded
device dev = record { target = Device dev; denial = None }

abbrev pub nobody : Denial → Decoded
nobody denial = record { target = Abort; denial = Some denial }

-- a card answers at the port modulo the size of its base (PCI Local Bus 2.1, section 6.2.5.1)
abbrev pub card_port : ℕ → Window → Decoded
card_port port window =
    record { target = Card window.dev window.base (port % 2 ^ window.bits); denial = None }

-- a configuration port: the register, or nobody, since the address is not enabled or names nothing
abbrev pub config_port : ℕ → Option Reg → Decoded
config_port address (Some reg) = record { target = Config reg; denial = None }
config_port address None = nobody (if is_enabled address then NoRegister else Confadd)

-- who denies an access that no card claims, where the device of the port is not selected
abbrev pub unselected : Setup → Bytes → ℕ → Denial → Decoded
unselected setup bytes port denial =
    unwrap_or (option_map (card_port port) (io_claim setup bytes port)) (nobody denial)

-- a device that a bit of XBCS selects (82371SB, XBCS: RTC Address Location and KBC Address Location enables)
abbrev pub by_xbcs : (bit : ℕ) → Dev → Setup → Bytes → ℕ → Decoded
by_xbcs bit dev setup bytes port =
    if is_bit (bytes xbcs) bit then device dev else unselected setup bytes port (Register xbcs)

-- the disk answers where one is fitted, bit 0 of the IDE command and bit 15 of IDETIM are set (82371SB, PCICMD of the
-- IDE function, I/O Space Enable; IDETIM, IDE Decode Enable)
abbrev pub by_channel : (disk : Bool) → Dev → Setup → Bytes → ℕ → Decoded
by_channel false dev setup bytes port = unselected setup bytes port NoRegister
by_channel true dev setup bytes port =
    if not (is_bit (bytes ide_command) 0) then unselected setup bytes port (Register ide_command) else
    if not (is_bit (bytes idetim_high) 7) then unselected setup bytes port (Register idetim) else device dev

-- a device answers at its ports where it is selected
abbrev pub selected_by : Select → (disk : Bool) → Dev → Setup → Bytes → ℕ → Decoded
selected_by Always disk dev setup bytes port = device dev
selected_by XbcsBit0 disk dev setup bytes port = by_xbcs 0 dev setup bytes port
selected_by XbcsBit1 disk dev setup bytes port = by_xbcs 1 dev setup bytes port
selected_by IdeChannel disk dev setup bytes port = by_channel disk dev setup bytes port

-- all other ports are the cards', and what none claims is denied by the card that would if it were enabled
abbrev pub other_port : Setup → Bytes → ℕ → Decoded
other_port setup bytes port =
    unselected setup bytes port (unwrap_or (option_map command_of (io_shut setup bytes port)) NoRegister)

-- a port that the table gives to this device, or to none
abbrev pub device_port : Option Dev → (disk : Bool) → Setup → Bytes → ℕ → Decoded
device_port None disk setup bytes port = other_port setup bytes port
device_port (Some dev) disk setup bytes port = selected_by (select_of dev) disk dev setup bytes port

-- the configuration ports, and then the table of the devices' ports
unfoldable pub port_target_of : Setup → Bytes → (address : ℕ) → (disk : Bool) → ℕ → Width → Decoded
port_target_of setup bytes address disk port width =
    if is_config_port port then config_port address (config_register setup address port)
    else device_port (device_at port (bytes_of width)) disk setup bytes port
