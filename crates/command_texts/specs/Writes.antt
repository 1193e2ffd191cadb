-- The map writes of a history, as they are noted while it is made.
use Rattle.std.specs.Prelude.{ℕ, ◌≡◌, ◌+◌, ◌<◌, List, length, reverse, slice_index}
use Rattle.board_prelude.specs.{Entry, Setup, map_writes_of}
use Rattle.command_texts.specs.declared.writes.MapWrites.{MapWrites}
use Rattle.command_texts.specs.Blame.{entry_of_version}

-- they are the map writes of a history, the oldest first, and the entry of each
pub record AreWritesOf (setup : Setup) (history : List Entry) (writes : MapWrites) : Type 0 where
  pub changes : reverse writes.changes.items ≡ map_writes_of setup history
  pub count : length writes.entries.items ≡ length writes.changes.items
  pub entry :
      (index : ℕ) → index < length writes.changes.items →
      slice_index writes.entries.items index ≡ entry_of_version setup history (index + 1)
