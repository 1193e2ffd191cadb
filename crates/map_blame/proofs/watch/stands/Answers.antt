use Rattle.std.proofs.Common.{sym, ◌∙◌, leb-false}
use Rattle.board_prelude.proofs.{false≢true, leb-true}
use Rattle.map_builder.proofs.AreaLemmas.{rows_eq}
use Rattle.map_blame.proofs.StandsLemmas.{all_right, other_row, ends_below}
use Rattle.map_blame.proofs.watch.stands.Goals as goal

pub returns-then-eq-clause-yes : goal.returns-then-eq-clause-yes
returns-then-eq-clause-yes c = λ ends setup bytes stands. all_right _ _ _
    (rw c.ranges-ranges.ensures.ranges (c.ranges-ranges.ensures.map setup bytes stands))
    _ c.requires.range _ c.index_of.ensures.holds ((rows_eq _ _ _ c.eq.ensures).0 c.if-eq.true) (leb-true _ _ ends)

pub returns-then-eq-clause-no : goal.returns-then-eq-clause-no
returns-then-eq-clause-no c = λ ends setup bytes stands. ends_below setup bytes c.ranges-ranges.result.now
    (rw c.ranges-ranges.ensures.ranges (c.ranges-ranges.ensures.map setup bytes stands))
    c.args.range.now c.requires.range c.index_of.result c.index_of.ensures.holds (leb-false _ _ ends)

pub returns-else-eq-clause-no : goal.returns-else-eq-clause-no
returns-else-eq-clause-no c = λ is setup bytes stands. other_row setup bytes c.ranges-ranges.result.now
    (rw c.ranges-ranges.ensures.ranges (c.ranges-ranges.ensures.map setup bytes stands))
    c.args.range.now c.requires.range c.index_of.result c.index_of.ensures.holds
    (λ same. false≢true (sym c.if-eq.false ∙ (rows_eq c.eq.result _ c.args.range.now.row.areas c.eq.ensures).1 same))
