-- What the board's own devices say to a port access: one answers, or the device of the port is not
-- selected, or the port is no device's.
use Rattle.std.specs.Prelude.{ℕ, ◌/◌, Bool, true, false, if◌then◌else◌, Option, Some, None}
use Rattle.board_prelude.specs.{Dev, Denial, Register, NoRegister, Select, Always, XbcsBit0, XbcsBit1, IdeChannel}
use Rattle.board_prelude.specs.{select_of, is_bit, xbcs as select_register, ide_command, idetim}
use Rattle.addr_decode.specs.declared.onboard.Onboard.{Onboard}
use Rattle.addr_decode.specs.declared.onboard.Onboard.TheVariants.{Answers, Denied, Absent}

-- a device that answers where it is selected
abbrev pub if_selected : Bool → Dev → Denial → Onboard
if_selected true dev denial = Answers dev
if_selected false dev denial = Denied denial

-- the disk, by the command of the IDE function and the timing register of its channel
abbrev pub if_decoded : (disk : Bool) → Dev → (command timing : ℕ) → Onboard
if_decoded false dev command timing = Denied NoRegister
if_decoded true dev command timing =
    if is_bit command 0
    then if_selected (is_bit (timing / 0x100) 7) dev (Register idetim) else Denied (Register ide_command)

-- a device, by what selects it
abbrev pub by_select : Select → Dev → (xbcs : ℕ) → (disk : Bool) → (command timing : ℕ) → Onboard
by_select Always dev xbcs disk command timing = Answers dev
by_select XbcsBit0 dev xbcs disk command timing = if_selected (is_bit xbcs 0) dev (Register select_register)
by_select XbcsBit1 dev xbcs disk command timing = if_selected (is_bit xbcs 1) dev (Register select_register)
by_select IdeChannel dev xbcs disk command timing = if_decoded disk dev command timing

-- the device of a port, if it is one's
abbrev pub response_of : Option Dev → (xbcs : ℕ) → (disk : Bool) → (command timing : ℕ) → Onboard
response_of None xbcs disk command timing = Absent
response_of (Some dev) xbcs disk command timing = by_select (select_of dev) dev xbcs disk command timing
