use Rattle.std.proofs.Common.{◌≡◌, ℕ, ◌*◌, ◌++◌, List, length, take}
use Rattle.board_prelude.proofs.{into_iter_items, Entry}
use Rattle.std.specs.Vec.Iter.{into_iter_len}
use Rattle.logs.specs.LinesFrom.{lines_from}
use Rattle.run_log.specs.Pieces.{ArePieces}
use Rattle.run_log.proofs.pieces.push_pieces.Given as goal

-- the lines of the pieces so far
abbrev pub invariant-loop-piece : goal.invariant-loop-piece
invariant-loop-piece l = record {
  left : l.yielded ++ into_iter_items l.piece-iterator ≡ l.fn.pieces.items;
  len : into_iter_len l.piece-iterator ≡ length (into_iter_items l.piece-iterator);
  added : (size : ℕ) (entries : List Entry) → ArePieces size entries l.fn.pieces.items →
      l.text ≡ l.fn.text ++ lines_from 1 (take (length l.yielded * size) entries);
}
