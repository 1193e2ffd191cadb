use Rattle.std.proofs.lemmas.Bool.Decides.{nat_tests}
use Rattle.std.proofs.Common.{length, ap, ◌∙◌, arith}
use Rattle.board_prelude.proofs.{take_all, IsInRange, in_file_order}
use Rattle.script_spec.specs.Phases.{lists_of}
use Rattle.command_texts.proofs.Statements.{in_range}
use Rattle.command_texts.proofs.Done.{phase_adds, of_phase, said_before}
use Rattle.command_texts.proofs.replay_log.push_replay.Goals as goal

pub loop-phase-init : goal.loop-phase-init
loop-phase-init c = grind (arith, nat_tests)

pub push_phase-requires-clause-in_range : goal.push_phase-requires-clause-in_range
push_phase-requires-clause-in_range c =
    of_phase (λ statement. IsInRange c.loop-phase.replay.chipset.setup statement.event) _ _ _ _
    c.loop-phase-test.true c.phase-item.is c.deref.ensures.value
    (rw (c.loop-phase.invariant.setup, c.deref-phase-items.ensures.value)
    (in_range c.args.replay.now.chipset.setup _ c.requires.in_range c.requires.cards))

pub push_phase-requires-clause-few : goal.push_phase-requires-clause-few
push_phase-requires-clause-few c =
    let adds = phase_adds c.loop-phase-test.true c.phase-item.is c.deref.ensures.value in
    let all = ap (λ ps. length (in_file_order (lists_of ps))) c.deref-phase-items.ensures.value in
    omega (arith, c.loop-phase.invariant.count, adds.few, all, c.requires.in_range.statements)

pub loop-phase-preserved : goal.loop-phase-preserved
loop-phase-preserved c =
    let phases = c.deref-phase-items.result.now in
    let before = c.loop-phase.invariant in
    let adds = phase_adds c.loop-phase-test.true c.phase-item.is c.deref.ensures.value in
    record {
      setup = c.push_phase.ensures.setup ∙ before.setup;
      count = omega (arith, c.in_ok-push_phase.ensures.count, before.count, adds.long);
      log =
          rw adds.said (c.in_ok-push_phase.ensures.log c.args.script.now.version
          (said_before phases c.loop-phase.phase-index) before.log);
    }

pub returns-clause-log : goal.returns-clause-log
returns-clause-log c = grind (arith, nat_tests, take_all)
