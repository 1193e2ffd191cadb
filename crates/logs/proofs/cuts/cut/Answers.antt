use Rattle.std.proofs.Common.{sym, ◌∙◌, rules, tests}
use Rattle.board_prelude.proofs.{YieldsList-from_slice, position_from_yields_List}
use Rattle.logs.proofs.CutPlaces.{is_mark, cut_at, uncut}
use Rattle.logs.proofs.cuts.cut.Goals as goal

pub returns-in-Some-clause-parts : goal.returns-in-Some-clause-parts
returns-in-Some-clause-parts c =
    let found = position_from_yields_List (is_mark c.args.mark) _ _ c.position.result c.position.ensures.ran
    (YieldsList-from_slice c.args.text.now c.iter.ensures.rest) (λ x b q k. search (rules, tests)) in
    cut_at c.args.mark c.args.text.now c.in-Some.end (sym found ∙ c.in-Some.is)

pub returns-in-None-clause-parts : goal.returns-in-None-clause-parts
returns-in-None-clause-parts c =
    let found = position_from_yields_List (is_mark c.args.mark) _ _ c.position.result c.position.ensures.ran
    (YieldsList-from_slice c.args.text.now c.iter.ensures.rest) (λ x b q k. search (rules, tests)) in
    uncut c.args.mark c.args.text.now (sym found ∙ c.in-None.is)
