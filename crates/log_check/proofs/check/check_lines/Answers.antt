use Rattle.std.proofs.Common.{arith, ◌≡◌, ◌++◌, [], length, sym, ◌∙◌}
use Rattle.std.proofs.lemmas.Bool.Decides.{nat_tests}
use Rattle.board_prelude.proofs.{log_text}
use Rattle.log_check.specs.declared.fault.CheckFault.TheVariants.{NoMemory}
use Rattle.script_spec.specs.Phases.{lists_of}
use Rattle.log_check.proofs.Histories.{Known}
use Rattle.log_check.proofs.LineSteps.{handed_on}
use Rattle.log_check.proofs.LogChecks.{known, failed_first, failed_heading, failed_within, passed, failed_end}
use Rattle.log_check.proofs.check.check_lines.Given.{Over}
use Rattle.log_check.proofs.check.check_lines.Goals.{After-law_one_replay, After-check_phases, After-count-count}
use Rattle.log_check.proofs.check.check_lines.Goals as goal

script : (g : Over) (c : After-law_one_replay g) →
    Known (g.B.Steps.standing c.args.board.now).setup (lists_of c.args.phases.now)
script g c = grind (arith, nat_tests, known)

past_heading : (g : Over) (c : After-check_phases g) →
    c.args.bytes.now ≡ log_text c.args.version [] ++ c.in_ok-rest.rest.now
past_heading g c = grind (arith, nat_tests)

count_is : (g : Over) (c : After-count-count g) →
    c.count-count.result ≡ length (g.B.Steps.standing c.check_phases.new.board).entries
count_is g c = grind (arith, nat_tests)

pub returns-in_err-print_heading-clause-checked : goal.returns-in_err-print_heading-clause-checked
returns-in_err-print_heading-clause-checked g c =
    handed_on c.from_residual.result NoMemory _ _ c.from_residual.ensures.1 (failed_first c.requires.fresh)

pub returns-in_err-rest-clause-checked : goal.returns-in_err-rest-clause-checked
returns-in_err-rest-clause-checked g c =
    let at = (goal.at.returns-in_err-rest-clause-checked g c).After-law_one_replay in
    let printed = c.deref.ensures ∙ c.in_ok-print_heading.ensures.printed in
    handed_on c.from_residual-in_err-rest.result c.in_err-rest.field-0.0 _ _ c.from_residual-in_err-rest.ensures.1
    (rw c.in_err-rest.ensures.cases.0
    (failed_heading (script g at) c.requires.fresh
    (λ after text. c.in_err-rest.ensures.cases.1 after (rw printed text))))

pub returns-in_err-rest-2-clause-checked : goal.returns-in_err-rest-2-clause-checked
returns-in_err-rest-2-clause-checked g c =
    let at = goal.at.returns-in_err-rest-2-clause-checked g c in
    handed_on c.from_residual-in_err-rest-2.result c.in_err-rest-2.field-0.0 _ _ c.from_residual-in_err-rest-2.ensures.1
    (failed_within c.in_err-rest-2.field-0.0 (script g at.After-law_one_replay)
    (c.in_err-rest-2.ensures.walked c.args.version c.args.bytes.now (past_heading g at.After-check_phases)))

pub returns-then-is_empty-clause-checked : goal.returns-then-is_empty-clause-checked
returns-then-is_empty-clause-checked g c =
    let at = goal.at.returns-then-is_empty-clause-checked g c in
    let walked =
    c.in_ok-rest-2.ensures.walked c.args.version c.args.bytes.now (past_heading g at.After-check_phases) in
    passed c.in_ok-rest-2.rest.now c.count-count.result (rw c.check_phases.ensures.setup at c.count-count.ensures.legal)
    walked.0 walked.1 (count_is g at.After-count-count) (sym c.is_empty.ensures ∙ c.if-is_empty.true)

pub returns-clause-checked : goal.returns-clause-checked
returns-clause-checked g c =
    let at = goal.at.returns-clause-checked g c in
    let walked =
    c.in_ok-rest-2.ensures.walked c.args.version c.args.bytes.now (past_heading g at.After-check_phases) in
    failed_end c.in_ok-rest-2.rest.now c.count-count.result (rw c.check_phases.ensures.setup at c.count-count.ensures.legal)
    walked.0 walked.1 (count_is g at.After-count-count) (script g at.After-law_one_replay)
    (sym c.is_empty.ensures ∙ c.if-is_empty.false)
