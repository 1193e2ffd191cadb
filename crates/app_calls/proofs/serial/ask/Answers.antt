use Rattle.app_calls.proofs.serial.ask.Goals as goal

pub perform-requires : goal.perform-requires
perform-requires c = record { in_range = c.event.ensures.in_range c.args.serial.now.board.setup }
