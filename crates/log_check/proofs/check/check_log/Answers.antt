use Rattle.std.proofs.Common.{ap}
use Rattle.log_check.proofs.LogChecks.{exactly}
use Rattle.log_check.proofs.check.check_log.Goals as goal

pub returns-clause-exactly : goal.returns-clause-exactly
returns-clause-exactly g c =
    exactly (g.B.Steps.standing c.check_lines.new.board).entries c.check_lines.result
    (rw (ap (λ board. board.setup) c.in_ok-reserve.ensures.ok) at c.check_lines.ensures.checked)
