-- Where an access of one bus cycle would land after a history.
use Rattle.std.specs.Prelude.{List, Option, Some, None}
use Rattle.board_prelude.specs.{PortAccess, Event, Memory, Port, Part, Entry, Setup, part_answer}
use Rattle.board_chipset.specs.Ports.{reached}

-- what an access to a port would reach, and what would deny it
abbrev pub port_part : Setup → List Entry → PortAccess → Part
port_part setup history access =
    record { target = (reached setup history access).target; denial = (reached setup history access).denial }

-- what would answer an access to memory or to a port, and what would deny it. Other events are no accesses of one cycle
abbrev pub place_of : Setup → List Entry → Event → Option Part
place_of setup history (Memory access) = Some (part_answer setup history access)
place_of setup history (Port access) = Some (port_part setup history access)
place_of setup history _ = None
