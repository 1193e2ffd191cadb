use Rattle.command_texts.proofs.Statements.{in_range}
use Rattle.command_texts.proofs.replay.check_log.Goals as goal

pub check_log-requires-clause-in_range : goal.check_log-requires-clause-in_range
check_log-requires-clause-in_range g c =
    rw c.deref.ensures.value (in_range (g.B.Steps.standing c.args.board.now).setup _ c.requires.fresh.in_range c.requires.fresh.cards)

pub returns-clause-exactly : goal.returns-clause-exactly
returns-clause-exactly g c = rw c.deref.ensures.value at c.check_log.ensures.exactly
