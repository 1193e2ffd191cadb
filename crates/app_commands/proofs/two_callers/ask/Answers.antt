use Rattle.board_live.specs.Callers.{setup_of}
use Rattle.app_commands.proofs.two_callers.ask.Goals as goal

pub bus-requires-clause-event : goal.bus-requires-clause-event
bus-requires-clause-event g c = c.requires.event (setup_of c.args.cpu.now)

pub bus-again-requires-clause-event : goal.bus-again-requires-clause-event
bus-again-requires-clause-event g c = c.requires.event (setup_of c.bus.new.self)
