use Rattle.std.proofs.Common.{◌∙◌, sym, arith}
use Rattle.board_prelude.proofs.{common_steps, nat_tests}
use Rattle.scripts.proofs.Reasons.{misplaced, out_of_range, asked_place, asked_repeated, asked_begun, none_in_case}
use Rattle.scripts.proofs.Reasons.{some_in_case, few_pulses, asked_reason}
use Rattle.scripts.proofs.reading.Reading.validate_statement.Goals as goal

pub returns-then-not-has_phase-clause-judged : goal.returns-then-not-has_phase-clause-judged
returns-then-not-has_phase-clause-judged c items is = grind (arith, nat_tests, common_steps, misplaced, asked_place)

pub returns-in_default-clause-judged : goal.returns-in_default-clause-judged
returns-in_default-clause-judged c items is =
    grind (arith, nat_tests, common_steps, out_of_range, asked_place, asked_repeated, asked_begun, none_in_case)

pub returns-then-not-is_placed-clause-judged : goal.returns-then-not-is_placed-clause-judged
returns-then-not-is_placed-clause-judged c items is =
    rw (asked_reason _ _ _ (c.in-Some.ensures.event c.args.actor) items c.args.self.now is
    (sym (c.has_phase.ensures.phase items is) ∙ c.if-not-has_phase.false)) (grind (arith, nat_tests, common_steps))

pub returns-then-not-has_processor-clause-judged : goal.returns-then-not-has_processor-clause-judged
returns-then-not-has_processor-clause-judged c items is =
    rw (asked_reason _ _ _ (c.in-Some.ensures.event c.args.actor) items c.args.self.now is
    (sym (c.has_phase.ensures.phase items is) ∙ c.if-not-has_phase.false)) (grind (arith, nat_tests, common_steps))

pub returns-then-not-has_card_of-clause-judged : goal.returns-then-not-has_card_of-clause-judged
returns-then-not-has_card_of-clause-judged c items is =
    rw (asked_reason _ _ _ (c.in-Some.ensures.event c.args.actor) items c.args.self.now is
    (sym (c.has_phase.ensures.phase items is) ∙ c.if-not-has_phase.false)) (grind (arith, nat_tests, common_steps))

pub is_past_limit-requires-clause-few : goal.is_past_limit-requires-clause-few
is_past_limit-requires-clause-few c =
    few_pulses c.args.actor c.args.asked c.in-Some.event (c.in-Some.ensures.event c.args.actor)

pub returns-then-is_past_limit-clause-judged : goal.returns-then-is_past_limit-clause-judged
returns-then-is_past_limit-clause-judged c items is =
    rw (asked_reason _ _ _ (c.in-Some.ensures.event c.args.actor) items c.args.self.now is
    (sym (c.has_phase.ensures.phase items is) ∙ c.if-not-has_phase.false)) (grind (arith, nat_tests, common_steps))

pub returns-clause-judged : goal.returns-clause-judged
returns-clause-judged c items is = (
  rw (asked_reason _ _ _ (c.in-Some.ensures.event c.args.actor) items c.args.self.now is
      (sym (c.has_phase.ensures.phase items is) ∙ c.if-not-has_phase.false))
      (grind (arith, nat_tests, common_steps)),
  (some_in_case _ _ _ (c.in-Some.ensures.event c.args.actor)).1,
)

pub returns-clause-few : goal.returns-clause-few
returns-clause-few c = few_pulses c.args.actor c.args.asked c.in-Some.event (c.in-Some.ensures.event c.args.actor)
