-- A history without the entries of one processor.
use Rattle.std.specs.Prelude.{ℕ, ◌==◌, not, List, filter}
use Rattle.board_prelude.specs.{Entry}

-- the entries of all other processors
abbrev pub others : ℕ → List Entry → List Entry
others number history = filter (λ entry. not (entry.actor == number)) history
