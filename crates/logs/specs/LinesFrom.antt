-- The lines of a part of a history. Here the oldest entry stands first.
use Rattle.std.specs.Prelude.{ℕ, ◌≡◌, ◌+◌, ◌++◌, List, [], ◌∷◌, length, reverse}
use Rattle.board_prelude.specs.{Entry, Event, Reply, line_feed, line_text, lines_text}

-- the entry of these parts
abbrev pub entry_with : (actor seq : ℕ) → Event → Reply → Entry
entry_with actor seq event reply = record { actor = actor; seq = seq; event = event; reply = reply }

-- the line of the oldest entry has the number `first`
unfoldable pub lines_from : (first : ℕ) → List Entry → List ℕ
lines_from first [] = []
lines_from first (entry ∷ later) = (line_text first entry ++ line_feed ∷ []) ++ lines_from (first + 1) later

-- from 1 on they are the lines of the history
abbrev pub LinesOfHistory : Type 0
LinesOfHistory = (entries : List Entry) → lines_text (reverse entries) ≡ lines_from 1 entries

-- of two parts, one after the other, the later one is numbered on
abbrev pub LinesOfParts : Type 0
LinesOfParts =
    (first : ℕ) (early late : List Entry) →
    lines_from first (early ++ late) ≡ lines_from first early ++ lines_from (first + length early) late
