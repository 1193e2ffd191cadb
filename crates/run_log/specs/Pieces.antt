-- The lines of a history in pieces. Here the oldest entry stands first.
use Rattle.std.specs.Prelude.{ℕ, ◌≡◌, ◌+◌, ◌*◌, ◌<◌, List, length, take, drop, slice_index_or, Result, IfOk, Vec}
use Rattle.board_prelude.specs.{Global, NoMemory, Entry}
use Rattle.logs.specs.LinesFrom.{lines_from}

abbrev pub Piece : Type 0
Piece = Result (Vec ℕ Global) NoMemory

-- the lines of piece n, counted from 0, of `size` entries each; a piece for which there was no memory has none
abbrev pub IsPiece : (size n : ℕ) → List Entry → Piece → Type 0
IsPiece size n entries piece =
    IfOk piece (λ text. text.items ≡ lines_from (n * size + 1) (take size (drop (n * size) entries)))

-- each piece has the lines of its place
abbrev pub ArePieces : (size : ℕ) → List Entry → List Piece → Type 0
ArePieces size entries pieces =
    (n : ℕ) (d : Piece) → n < length pieces → IsPiece size n entries (slice_index_or pieces n d)
