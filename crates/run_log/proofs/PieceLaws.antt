-- Pieces that are joined in their order.
use Rattle.std.proofs.Common.{ap, ◌≡◌, ℕ, ◌+◌, ◌*◌, ◌++◌, List, [], ◌∷◌, length, take, drop}
use Rattle.std.proofs.Common.{refl, ◌∙◌, append_assoc, append-nil, arith, Ok, Vec}
use Rattle.std.proofs.Common.{Global, take_all, length-take-le, length-append}
use Rattle.board_prelude.proofs.{nat_tests, common_steps, drop_all, get_or-append_seam, Entry}
use Rattle.std.proofs.Math.Seq.{take-add}
use Rattle.logs.specs.LinesFrom.{lines_from}
use Rattle.logs.proofs.Parts.{lines_of_parts}
use Rattle.run_log.specs.Pieces.{Piece, IsPiece, ArePieces}

-- the lines that follow `n` entries are numbered on, and where there are no more entries there are no lines
lines_after : (n size : ℕ) (entries : List Entry) → lines_from (1 + length (take n entries))
    (take size (drop n entries)) ≡ lines_from (n + 1) (take size (drop n entries))
unfolding lines_from
lines_after n size entries = grind (arith, nat_tests, common_steps, drop_all, take_all, length-take-le)

-- of no entries there are no lines
pub no_lines : (first n : ℕ) (entries : List Entry) (text : List ℕ) → n ≡ 0
    → text ≡ text ++ lines_from first (take n entries)
unfolding lines_from
no_lines first n entries text none = rw (none, append-nil text) refl

piece_at : (size : ℕ) (entries : List Entry) (done rest : List Piece) (lines : Vec ℕ Global) (piece : Piece) →
    ArePieces size entries (done ++ piece ∷ rest) → piece ≡ Ok lines → IsPiece size (length done) entries (Ok lines)
piece_at size entries done rest lines piece are is =
    grind (arith, nat_tests, length-append, get_or-append_seam, are (length done) piece)

-- with the lines of the next piece
pub piece_added : (size : ℕ) (entries : List Entry) (done rest : List Piece) (lines : Vec ℕ Global) (piece : Piece)
    (old text new : List ℕ) → ArePieces size entries (done ++ piece ∷ rest) → piece ≡ Ok lines →
    text ≡ old ++ lines_from 1 (take (length done * size) entries) → new ≡ text ++ lines.items →
    new ≡ old ++ lines_from 1 (take (length (done ++ piece ∷ []) * size) entries)
piece_added size entries done rest lines piece old text new are is so_far added =
    let count : length (done ++ piece ∷ []) * size ≡ length done * size + size =
    ap (λ (k : ℕ). k * size) (length-append done (piece ∷ [])) ∙ omega arith in
    let said = piece_at size entries done rest lines piece are is in
    let parts = lines_of_parts 1 (take (length done * size) entries) (take size (drop (length done * size) entries)) in
    let after = lines_after (length done * size) size entries in
    let whole = take-add (length done * size) size entries in
    grind (arith, append_assoc)
