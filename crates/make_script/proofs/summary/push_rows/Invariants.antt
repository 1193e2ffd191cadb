use Rattle.std.proofs.Common.{take, flat_map, ◌++◌, ◌∷◌, [], decimal}
use Rattle.board_spec.specs.Text.{line_feed}
use Rattle.logs.specs.Adds.{AddsWords}
use Rattle.make_script.proofs.summary.push_rows.Given as goal

-- the rows so far
abbrev pub invariant-loop-row : goal.invariant-loop-row
invariant-loop-row l =
    AddsWords l.fn.text l.text
    (flat_map (λ row. row.0.now ++ decimal row.1 ++ line_feed ∷ []) (take l.row-index l.rows))
