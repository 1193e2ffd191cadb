use Rattle.std.proofs.Common.{◌-◌, arith}
use Rattle.command_texts.proofs.Happenings.{event_done}
use Rattle.command_texts.proofs.serial.step.Goals as goal

pub returns-in_ok-push-clause-happened : goal.returns-in_ok-push-clause-happened
returns-in_ok-push-clause-happened c =
    event_done _ _ c.args.serial.now c.step-reply.new.self c.step-reply.ensures.setup
    (c.step-reply.ensures.com1 c.args.serial.now.board.entries c.requires.standing)
    (c.step-reply.ensures.history c.args.serial.now.board.entries c.requires.standing)

pub returns-in_ok-push-clause-spare : goal.returns-in_ok-push-clause-spare
returns-in_ok-push-clause-spare c =
    omega (
      arith,
      c.requires.spare,
      c.step-reply.ensures.spare (c.args.serial.now.board.spare - 2) (omega (arith, c.requires.spare)),
    )

pub returns-in_default-clause-happened : goal.returns-in_default-clause-happened
returns-in_default-clause-happened c =
    event_done _ _ c.args.serial.now c.step-reply.new.self c.step-reply.ensures.setup
    (c.step-reply.ensures.com1 c.args.serial.now.board.entries c.requires.standing)
    (c.step-reply.ensures.history c.args.serial.now.board.entries c.requires.standing)
