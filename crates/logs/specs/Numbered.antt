-- A line of a log is its number, a space, and the rest, which the entry alone says (`lines_are_numbered`).
use Rattle.std.specs.Prelude.{ℕ, ◌++◌, List, [], ◌∷◌, codes, decimal}
use Rattle.board_prelude.specs.{Entry, space, line_feed, value_bytes, event_text, reply_text}

-- what follows the number of a line and the space after it, without the line feed
unfoldable pub tail_text : Entry → List ℕ
tail_text entry =
    decimal entry.actor ++ codes "." ++ decimal entry.seq ++ space ∷ event_text entry.event ++ codes " = "
    ++ reply_text (value_bytes entry.event) entry.reply

-- the same with the line feed
abbrev pub tail_line : Entry → List ℕ
tail_line entry = tail_text entry ++ line_feed ∷ []
