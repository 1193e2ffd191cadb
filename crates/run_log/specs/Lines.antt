-- The lines that the processors of a run wrote. Here the oldest entry stands first.
use Rattle.std.specs.Prelude.{ℕ, ◌≡◌, ◌<◌, List, [], All, length, map, slice_index_or}
use Rattle.board_prelude.specs.{Entry, entries_by}
use Rattle.logs.specs.Numbered.{tail_line}
use Rattle.run_order.specs.Over.{AreActorsOf}

-- the lines of entries, without their numbers
abbrev pub lines_of : List Entry → List (List ℕ)
lines_of entries = map tail_line entries

-- each processor wrote the lines of its own entries of a history, whose processors in their order are `order`
pub record AreLinesOf (lines : List (List (List ℕ))) (order : List ℕ) (entries : List Entry) : Type 0 where
  pub actors : AreActorsOf order entries
  pub callers : All (λ actor. actor < length lines) order
  pub each : (actor : ℕ) → actor < length lines → slice_index_or lines actor [] ≡ lines_of (entries_by actor entries)
