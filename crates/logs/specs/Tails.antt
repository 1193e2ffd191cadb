-- The end of a line, which grows to the front.
use Rattle.std.specs.Prelude.{ℕ, ◌+◌, ◌≤◌, List, length}
use Rattle.board_prelude.specs.{Event, value_bytes}

-- so many more bytes fit before this end of a line
abbrev pub HasRoom : List ℕ → ℕ → Type 0
HasRoom line more = length line + more ≤ 240

-- an end of a line is longer by at most so many bytes
abbrev pub GrowsBy : (old new : List ℕ) → ℕ → Type 0
GrowsBy old new most = length new ≤ length old + most

-- the value of an event has at most eight bytes
abbrev pub HasShortValue : Event → Type 0
HasShortValue event = value_bytes event ≤ 8
