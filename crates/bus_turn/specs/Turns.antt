-- Which turn a pass is of.
use Rattle.std.specs.Prelude.{◌≡◌, Option}
use Rattle.atomic_table.specs.declared.shared.Seat.{Seat}
use Rattle.bus_turn.specs.declared.view.View.{View}
use Rattle.bus_turn.specs.declared.turn.Turn.{Turn}

abbrev pub IsOf : {T E F : Type 0} → Turn T E F → Seat (Option T) (View E F) → Type 0
IsOf turn pass = pass.table_id ≡ turn.table.shared.table_id
