-- A text is cut into lines at its line feeds.
use Rattle.std.specs.Prelude.{ℕ, ◌≢◌, ◌==◌, ◌++◌, List, [], ◌∷◌, All, flat_map, if◌then◌else◌}
use Rattle.board_prelude.specs.{onto_first, line_feed}

-- the lines of a text. A last piece that is empty is no line
unfoldable pub lines_of : List ℕ → List (List ℕ)
lines_of [] = []
lines_of (byte ∷ rest) = if byte == line_feed then [] ∷ lines_of rest else onto_first byte (lines_of rest)

-- the lines one after the other, each with its line feed
abbrev pub text_of_lines : List (List ℕ) → List ℕ
text_of_lines lines = flat_map (λ line. line ++ line_feed ∷ []) lines

-- the bytes of one line
abbrev pub IsOneLine : List ℕ → Type 0
IsOneLine line = All (λ byte. byte ≢ line_feed) line
