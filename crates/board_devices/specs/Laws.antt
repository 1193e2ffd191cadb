-- What the laws of this crate say: they are proved on functions of `lines`.
use Rattle.std.specs.Prelude.{◌≡◌, ◌&&◌, true, false, List, ◌∷◌, Some}
use Rattle.board_prelude.specs.{PortAccess, Dev, bytes_of, Ack, Entry, Setup, routes_of, pair_after_acknowledge}
use Rattle.board_prelude.specs.{pair_accessed, pair_of}
use Rattle.board_devices.specs.Devices.{DevicesValue, AreDevicesOf}
use Rattle.board_devices.specs.Events.{Asks, Leaves, ReachesDevice, is_chip_port, moves_lines, sets_triggers}
use Rattle.board_devices.specs.Events.{level_driven}

-- an event that reaches no device and moves no route leaves every device, and the pair too, since the lines stand as
-- it saw them
abbrev pub LeavesDevices : Type 0
LeavesDevices =
    (setup : Setup) (history : List Entry) (entry : Entry) (devices : DevicesValue) →
    AreDevicesOf setup history devices →
    Leaves history entry → routes_of setup (entry ∷ history) ≡ routes_of setup history →
    AreDevicesOf setup (entry ∷ history) devices

-- an access that can move no line leaves the pair as the access itself made it: the lines that then reach it are
-- those that it saw
abbrev pub AccessLeavesLines : Type 0
AccessLeavesLines =
    (setup : Setup) (history : List Entry) (entry : Entry) (dev : Dev) (access : PortAccess) →
    is_chip_port dev access.port (bytes_of access.width) ≡ true → ReachesDevice history entry dev access →
    moves_lines dev access.write ≡ false →
    pair_of setup (entry ∷ history) ≡ pair_accessed (Some dev) access (pair_of setup history)

-- and so does one after which the device that it reached drives its line as before, where it is no write to the edge
-- and level control
abbrev pub StillLeavesLines : Type 0
StillLeavesLines =
    (setup : Setup) (history : List Entry) (entry : Entry) (dev : Dev) (access : PortAccess) →
    is_chip_port dev access.port (bytes_of access.width) ≡ true → ReachesDevice history entry dev access →
    (access.write && sets_triggers dev) ≡ false →
    level_driven dev setup (entry ∷ history) ≡ level_driven dev setup history →
    pair_of setup (entry ∷ history) ≡ pair_accessed (Some dev) access (pair_of setup history)

-- and so does an acknowledge
abbrev pub AcknowledgeLeavesLines : Type 0
AcknowledgeLeavesLines =
    (setup : Setup) (history : List Entry) (entry : Entry) → Asks history entry Ack →
    pair_of setup (entry ∷ history) ≡ pair_after_acknowledge (pair_of setup history)
