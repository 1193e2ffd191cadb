use Rattle.std.proofs.Common.{ap, ◌∙◌, length, nat_lt, unwrap_or, rules, tests, arith}
use Rattle.board_prelude.proofs.{YieldsList-from_slice, position_from_yields_List, nat_tests, ltb-false, cases_Bool}
use Rattle.board_prelude.proofs.{position_or_len, common_steps}
use Rattle.std.proofs.lemmas.List.Sums.{prefix_len-le-length}
use Rattle.scripts.proofs.take.index_for_card.Goals as goal

pub returns-clause-place : goal.returns-clause-place
returns-clause-place c =
    let found = position_from_yields_List (λ other. nat_lt c.args.dev other.dev) _ _ c.position.result
    c.position.ensures.ran (YieldsList-from_slice c.args.cards.now c.iter.ensures.rest)
    (λ x b q k. search (rules, tests)) in
    c.unwrap_or.ensures ∙ ap (λ found. unwrap_or found (length c.args.cards.now)) found
    ∙ (grind (arith, nat_tests, common_steps, position_or_len, nat_lt, prefix_len-le-length, cases_Bool, ltb-false))
