use Rattle.std.proofs.lemmas.Bool.Decides.{nat_tests}
use Rattle.std.proofs.Common.{ap, ◌∙◌, arith}
use Rattle.board_prelude.proofs.{take_all, IsInRange}
use Rattle.board_core.specs.Kept.{Standing}
use Rattle.command_texts.proofs.Statements.{in_range}
use Rattle.command_texts.proofs.Done.{done_more, done_is_replay, phase_adds, of_phase, none_said}
use Rattle.command_texts.proofs.writes.replay_noting.Goals as goal

pub loop-phase-init : goal.loop-phase-init
loop-phase-init c =
    let none =
    none_said c.args.board.now c.reserve.new.self c.statement_count.result c.deref-phase-items.result.now
    c.in_ok-reserve.ensures.ok
    (rw (c.deref-phase-items.ensures.value, ← c.deref.ensures.value) c.statement_count.ensures.count) in
    let entries = ap (λ (board : Standing). board.entries) c.in_ok-reserve.ensures.ok ∙ c.requires.fresh.fresh in
    record {
      done = none.0;
      room = omega (arith, none.1);
      writes = rw entries (c.new-writes.ensures.none c.reserve.new.self.setup);
    }

pub steps_noting-requires-clause-in_range : goal.steps_noting-requires-clause-in_range
steps_noting-requires-clause-in_range c =
    of_phase (λ statement. IsInRange c.loop-phase.board.setup statement.event) _ _ _ _
    c.loop-phase-test.true c.phase-item.is c.deref-in-loop-phase.ensures.value
    (rw (c.loop-phase.invariant.done.setup, c.deref-phase-items.ensures.value)
    (in_range c.args.board.now.setup _ c.requires.fresh.in_range c.requires.fresh.cards))

pub steps_noting-requires-clause-spare : goal.steps_noting-requires-clause-spare
steps_noting-requires-clause-spare c =
    let adds = phase_adds c.loop-phase-test.true c.phase-item.is c.deref-in-loop-phase.ensures.value in
    omega (arith, c.loop-phase.invariant.room, adds.few)

pub loop-phase-preserved : goal.loop-phase-preserved
loop-phase-preserved c =
    let adds = phase_adds c.loop-phase-test.true c.phase-item.is c.deref-in-loop-phase.ensures.value in
    grind (arith, nat_tests, done_more)

pub returns-clause-replay : goal.returns-clause-replay
returns-clause-replay c = grind (arith, nat_tests, take_all, done_is_replay)
