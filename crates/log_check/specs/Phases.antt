-- Statements whose numbers fit their types.
use Rattle.std.specs.Prelude.{◌<◌}
use Rattle.board_prelude.specs.{Event, Statement, address_count}
use Rattle.board_spec.specs.declared.event.Event.TheVariants.{Look as LookAt}

-- a look is at an address
abbrev pub IsLookInRange : Event → Type 0
IsLookInRange (LookAt kind addr smm) = addr < address_count
IsLookInRange _ = Unit {0}

-- the numbers of a statement fit their types
pub record IsTyped (statement : Statement) : Type 0 where
  pub actor : statement.actor < 256
  pub look : IsLookInRange statement.event
