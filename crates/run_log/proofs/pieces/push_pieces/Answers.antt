use Rattle.std.proofs.Common.{rules, ◌≡◌, ◌*◌, ◌∷◌, ◌++◌, [], List, sym, ap, subst, ◌∙◌, append_assoc, length, arith}
use Rattle.std.specs.Vec.Iter.{into_iter_items}
use Rattle.run_log.specs.Pieces.{ArePieces, Piece}
use Rattle.run_log.proofs.PieceLaws.{no_lines, piece_added}
use Rattle.run_log.proofs.pieces.push_pieces.Goals as goal

pub loop-piece-init : goal.loop-piece-init
loop-piece-init c =
    record {
      left = c.into_iter-piece-iterator.ensures.into_iter_gives.0;
      len = search rules;
      added = λ size entries are. no_lines 1 (0 * size) entries c.args.text.now (omega arith);
    }

pub loop-piece-preserved : goal.loop-piece-preserved
loop-piece-preserved c =
    let at = c.loop-piece in
    let piece = c.in-Some.piece in
    let rest = into_iter_items c.next.new.self in
    let steps : into_iter_items at.piece-iterator ≡ piece ∷ rest = c.in-Some.ensures.steps.0 in
    let whole : at.yielded ++ piece ∷ rest ≡ c.args.pieces.items =
    ap (λ (pieces : List Piece). at.yielded ++ pieces) (sym steps) ∙ at.invariant.left in
    record {
      left = append_assoc at.yielded (piece ∷ []) rest ∙ whole;
      len =
          let was = at.invariant.len in
          let gone = c.in-Some.ensures.steps.1 in
          let short = ap length steps in
          omega arith;
      added = λ size entries are.
          piece_added size entries at.yielded rest c.in_ok-lines.lines piece _ _ _
          (subst (ArePieces size entries) (sym whole) are) c.in_ok-lines.was (at.invariant.added size entries are)
          c.in_ok-push_bytes.ensures.added;
    }
