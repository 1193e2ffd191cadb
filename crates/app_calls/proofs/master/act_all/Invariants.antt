-- The store stays one of a board.
use Rattle.board_chipset.specs.Stores.{IsOfBoard}
use Rattle.app_calls.proofs.master.act_all.Given as goal

abbrev pub invariant-loop-step : goal.invariant-loop-step
invariant-loop-step l = record { sound : IsOfBoard l.store }
