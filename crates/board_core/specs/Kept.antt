-- What a board keeps: its history, the chipset that the history left, and the numbers of entries.
use Rattle.std.specs.Prelude.{ℕ, ◌≡◌, ◌+◌, ◌<◌, List, length, slice_index}
use Rattle.board_prelude.specs.{Entry, Event, Reply, Setup, entries_by, IsLegal, entry_limit}
use Rattle.board_chipset.specs.Chipset.{Running, IsLeftBy}

-- what a replay is seen as: its chipset, the number of entries so far, and those of each processor. Its history is not
-- kept: it is whatever history it may have played
pub record Playing : Type 0 where
  pub chipset : Running
  pub count : ℕ
  pub counts : List ℕ

-- the replay has played this history, the newest entry first: it is legal, and leaves a board as the chipset is
pub record HasPlayed (replay : Playing) (history : List Entry) : Type 0 where
  pub few : length history < entry_limit
  pub legal : IsLegal replay.chipset.setup history
  pub left : IsLeftBy replay.chipset history
  pub count : replay.count ≡ length history
  pub counted : (actor : ℕ) → actor < 256 → slice_index replay.counts actor ≡ length (entries_by actor history)

-- the entry of an event that a replay has just done
abbrev pub entry_of : (replay : Playing) → (actor : ℕ) → Event → Reply → Entry
entry_of replay actor event reply =
    record { actor = actor; seq = slice_index replay.counts actor; event = event; reply = reply }

-- it has played some history
abbrev pub HasPlayedSome : Playing → Type 0
HasPlayedSome replay = (history : List Entry) × HasPlayed replay history

-- a board keeps the history that its replay has played, with room for more
pub record HasHistory (replay : Playing) (history : List Entry) (spare : ℕ) : Type 0 where
  pub room : length history + spare < entry_limit
  pub played : HasPlayed replay history

-- what a board is seen as: its setup, its history with the newest entry first, and the room for more
pub record Standing : Type 0 where
  pub setup : Setup
  pub entries : List Entry
  pub spare : ℕ
