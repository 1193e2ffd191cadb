use Rattle.std.proofs.Common.{arith}
use Rattle.command_texts.specs.SerialSteps.{IsForPort}
use Rattle.command_texts.proofs.Done.{phase_adds, of_phase}
use Rattle.command_texts.proofs.SerialReplays.{went_on_twice}
use Rattle.command_texts.proofs.serial.all_steps.Goals as goal

pub steps-requires-clause-for_port : goal.steps-requires-clause-for_port
steps-requires-clause-for_port c =
    rw c.loop-phase.invariant.setup
    (of_phase (IsForPort c.args.serial.now.board.setup) _ _ _ _
    c.loop-phase-test.true c.phase-item.is c.deref.ensures.value c.requires.for_port)

pub steps-requires-clause-spare : goal.steps-requires-clause-spare
steps-requires-clause-spare c =
    let adds = phase_adds c.loop-phase-test.true c.phase-item.is c.deref.ensures.value in
    omega (arith, adds.few, c.requires.spare, c.loop-phase.invariant.spare)

pub loop-phase-preserved : goal.loop-phase-preserved
loop-phase-preserved c =
    let adds = phase_adds c.loop-phase-test.true c.phase-item.is c.deref.ensures.value in
    rw adds.said (went_on_twice _ _ _ _ _ c.loop-phase.invariant c.in_ok-left.ensures.went_on)
