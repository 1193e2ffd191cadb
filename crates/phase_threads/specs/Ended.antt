-- A run that has ended.
use Rattle.std.specs.Prelude.{ℕ, List, reverse, Option}
use Rattle.board_prelude.specs.{Entry}
use Rattle.run_order.specs.Room.{Order}
use Rattle.run_log.specs.Lines.{AreLinesOf}
use Rattle.phase_threads.specs.Placed.{IsUpTo, actors_in, entries_of}

-- the entries of its history, the newest first
pub record Ended : Type 0 where
  pub entries : List Entry

-- the history, which is the board's own where there is no other order, has the lines that the processors wrote
pub record HasEnded (order : Option Order) (own : List Entry) (lines : List (List (List ℕ))) : Type 0 where
  pub up_to : IsUpTo order own
  pub each : AreLinesOf lines (actors_in (entries_of order own)) (reverse (entries_of order own))
