use Rattle.machine.proofs.SavedParts.{after_added}
use Rattle.machine.proofs.saved.push_after.Goals as goal

pub returns-clause-added : goal.returns-clause-added
returns-clause-added c =
    after_added c.save_state.result c.args.serial.now c.board.result.now c.given_level.result c.uart.result.now
    c.args.left c.args.into.now.items c.push_rest.new.into.items c.push_flag.new.into.items c.save_state.new.into.items
    c.board.ensures.board c.in_ok-push_rest.ensures.added c.given_level.ensures.level
    c.in_ok-push_flag.ensures.added c.uart.ensures.uart c.save_state.ensures.saved
