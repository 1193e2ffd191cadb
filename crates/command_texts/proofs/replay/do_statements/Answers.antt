use Rattle.std.proofs.lemmas.Bool.Decides.{nat_tests}
use Rattle.std.proofs.Common.{arith}
use Rattle.board_prelude.proofs.{take_all, IsInRange}
use Rattle.command_texts.proofs.Statements.{in_range}
use Rattle.command_texts.proofs.Done.{done_more, phase_adds, of_phase, none_said}
use Rattle.command_texts.proofs.replay.do_statements.Goals as goal

pub loop-phase-init : goal.loop-phase-init
loop-phase-init c = grind (arith, nat_tests, none_said)

pub steps-requires-clause-in_range : goal.steps-requires-clause-in_range
steps-requires-clause-in_range c =
    of_phase (λ statement. IsInRange c.loop-phase.board.setup statement.event) _ _ _ _
    c.loop-phase-test.true c.phase-item.is c.deref-in-loop-phase.ensures.value
    (rw (c.loop-phase.invariant.done.setup, c.deref-phase-items.ensures.value)
    (in_range c.args.board.now.setup _ c.requires.in_range c.requires.cards))

pub steps-requires-clause-spare : goal.steps-requires-clause-spare
steps-requires-clause-spare c =
    let adds = phase_adds c.loop-phase-test.true c.phase-item.is c.deref-in-loop-phase.ensures.value in
    omega (arith, c.loop-phase.invariant.room, adds.few)

pub loop-phase-preserved : goal.loop-phase-preserved
loop-phase-preserved c =
    let adds = phase_adds c.loop-phase-test.true c.phase-item.is c.deref-in-loop-phase.ensures.value in
    record {
      done =
          rw adds.said (done_more _ _ _ _ _ c.loop-phase.invariant.done (record {
            setup = c.steps.ensures.setup;
            same = c.steps.ensures.same;
            legal = λ legal. c.steps.ensures.legal;
          }));
      room = omega (arith, c.loop-phase.invariant.room, c.steps.ensures.spare, adds.few, adds.long);
    }

pub returns-clause-done : goal.returns-clause-done
returns-clause-done c = grind (arith, nat_tests, take_all)
