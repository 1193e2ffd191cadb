-- What a history is seen as.
use Rattle.std.specs.Prelude.{ℕ, List}
use Rattle.board_spec.specs.declared.event.Entry.{Entry}

-- the entries, the newest first, and the room for more
pub record Past : Type 0 where
  pub entries : List Entry
  pub spare : ℕ
