use Rattle.std.proofs.Common.{rules, ap, Err, ◌∙◌}
use Rattle.scripts.specs.Script.{said_of}
use Rattle.command_files.specs.Statuses.{status_of_check_fault}
use Rattle.command_files.proofs.Refusals.{holds_of_error}
use Rattle.board_commands.proofs.Answers.{check_stopped}
use Rattle.board_commands.proofs.texts.verdict.Goals as goal

pub returns-in_err-text-clause-stops : goal.returns-in_err-text-clause-stops
returns-in_err-text-clause-stops c = λ script log.
    holds_of_error _ c.from_residual-in_err-text.result (status_of_check_fault c.in_err-text.field-0.0) (search rules)
    (check_stopped c.args.read (said_of c.in_ok-script.field-0.script) c.in_ok-script.field-0.board.setup _ script
    log
    c.in_ok-script.ensures.script c.in_ok-script.ensures.setup (c.deref.ensures.value
    ∙ c.in_ok-script.ensures.log)
    c.in_err-text.field-0.0 (λ line is. c.verdict_on_log.ensures.differs line (c.in_err-text.was ∙ ap Err is)))
