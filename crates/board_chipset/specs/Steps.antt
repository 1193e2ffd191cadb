-- Events for the devices alone.
use Rattle.board_prelude.specs.{Event, Memory, Wide, Port}
use Rattle.board_spec.specs.declared.event.Event.TheVariants.{Look as LookAt}

-- an event is no access and no look: it is for the devices alone
abbrev pub IsForDevices : Event → Type 0
IsForDevices (Memory access) = ⊥
IsForDevices (Wide access) = ⊥
IsForDevices (Port access) = ⊥
IsForDevices (LookAt kind addr smm) = ⊥
IsForDevices _ = Unit {0}
