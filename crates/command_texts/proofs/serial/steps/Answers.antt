use Rattle.std.proofs.Common.{◌∙◌, arith}
use Rattle.command_texts.proofs.SerialReplays.{went_on_step, went_on_more, room_for_next}
use Rattle.command_texts.proofs.serial.steps.Goals as goal

pub receive_next-left-requires-clause-spare : goal.receive_next-left-requires-clause-spare
receive_next-left-requires-clause-spare c =
    let room = room_for_next _ _ _ _ c.loop-statement-test.true c.requires.spare c.loop-statement.invariant in
    omega (arith, room)

pub step-requires-clause-standing : goal.step-requires-clause-standing
step-requires-clause-standing c = (c.receive_next-left.ensures.happened 0).standing

pub step-requires-clause-for_port : goal.step-requires-clause-for_port
step-requires-clause-for_port c =
    rw ((c.receive_next-left.ensures.happened 0).setup ∙ c.loop-statement.invariant.setup)
    (c.requires.for_port c.loop-statement.statement-index _ c.loop-statement-test.true)

pub step-requires-clause-spare : goal.step-requires-clause-spare
step-requires-clause-spare c =
    let room = room_for_next _ _ _ _ c.loop-statement-test.true c.requires.spare c.loop-statement.invariant in
    omega (arith, room, c.receive_next-left.ensures.spare)

pub loop-statement-preserved : goal.loop-statement-preserved
loop-statement-preserved c =
    went_on_more _ _ _ _ _ _ c.loop-statement-test.true c.loop-statement.invariant (went_on_step _ _ _ _ _ _ _ _
    c.receive_next-left.ensures.left (c.receive_next-left.ensures.happened _) c.in_ok-step.ensures.happened
    c.in_ok-step.ensures.sent c.receive_next-left.ensures.spare c.in_ok-step.ensures.spare)
