use Rattle.logs.proofs.Joined.{appended_twice}
use Rattle.logs.proofs.Parts.{log_text-lines}
use Rattle.logs.proofs.log.push_log.Goals as goal

pub returns-clause-appended : goal.returns-clause-appended
returns-clause-appended c =
    appended_twice _ _ _ _ _ _ _ c.in_ok-push_heading.ensures.appended c.push_lines.ensures.appended
    (log_text-lines c.args.version c.args.entries.now)
