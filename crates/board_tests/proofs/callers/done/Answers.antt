use Rattle.board_live.specs.Callers.{setup_of}
use Rattle.board_tests.proofs.callers.done.Goals as goal

pub bus-requires-clause-event : goal.bus-requires-clause-event
bus-requires-clause-event g c = c.requires.event (setup_of c.args.cpu.now)
