use Rattle.board_prelude.proofs.{common_steps, nat_tests}
use Rattle.std.proofs.Common.{refl, sym, arith}
use Rattle.script_spec.specs.Grammar.{FitCard}
use Rattle.scripts.specs.Items.{card_said}
use Rattle.scripts.proofs.Reasons.{out_of_range, past_limit, no_reason, none_in_case, some_in_case, limits_with}
use Rattle.scripts.proofs.Reasons.{past_memory, setup_within}
use Rattle.scripts.proofs.reading.Reading.validate_card.Goals as goal

pub returns-in_default-clause-judged : goal.returns-in_default-clause-judged
returns-in_default-clause-judged c items is =
    let card = card_said c.args.fields.now in
    let stands = c.in_ok-validate_setup.ensures.judged items (FitCard card) is refl
    (sym (c.has_card.ensures.card items is)) in
    grind (arith, nat_tests, common_steps, out_of_range, none_in_case)

pub returns-then-self-memory_of_card-gt-MOST_MEMORY-clause-judged :
    goal.returns-then-self-memory_of_card-gt-MOST_MEMORY-clause-judged
returns-then-self-memory_of_card-gt-MOST_MEMORY-clause-judged c items is =
    let card = card_said c.args.fields.now in
    let stands = c.in_ok-validate_setup.ensures.judged items (FitCard card) is refl
    (sym (c.has_card.ensures.card items is)) in
    grind (arith, nat_tests, common_steps, past_limit, some_in_case, limits_with, past_memory)

pub returns-clause-judged : goal.returns-clause-judged
returns-clause-judged c items is =
    let card = card_said c.args.fields.now in
    let stands = c.in_ok-validate_setup.ensures.judged items (FitCard card) is refl
    (sym (c.has_card.ensures.card items is)) in
    grind (arith, nat_tests, common_steps, no_reason, some_in_case, setup_within)
