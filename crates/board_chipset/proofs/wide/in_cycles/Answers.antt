use Rattle.std.proofs.Common.{◌∙◌, refl}
use Rattle.board_prelude.proofs.{parts_list, byte_of, wide_value}
use Rattle.board_stores.specs.Cycles.{AreReady}
use Rattle.board_stores.proofs.MemoryLemmas.{parts_answered}
use Rattle.board_chipset.proofs.StateSteps.{writes_none, state_put, state_stays}
use Rattle.board_chipset.proofs.HeldTargets.{stands}
use Rattle.board_chipset.proofs.MemorySteps.{writes_when, all_ready, all_write, parts_none}
use Rattle.board_chipset.proofs.wide.in_cycles.Goals.{After-is_write}
use Rattle.board_chipset.proofs.wide.in_cycles.Goals as goal

-- the cycles can be done
ready : (c : After-is_write) →
    AreReady c.args.rom.now c.args.state.now.stores.contents c.as_slice-cycles.result.now
ready c =
    let kept = c.requires.kept in
    let parts = c.cycles_of-cut.ensures.parts in
    rw (c.as_slice-cycles.ensures.value)
    (all_ready kept.sound kept.image c.args.access.now _
    (rw parts (c.law_parts.ensures.cut c.args.access.now c.requires.wide).each)
    (rw parts (c.cycles_of-cut.ensures.decoded kept.setup kept.sound.registers.bytes
    (stands kept.sound c.regs.ensures.same) kept.image)))

pub write_cycles-requires-clause-ready : goal.write_cycles-requires-clause-ready
write_cycles-requires-clause-ready c =
    (c.args.rom.now, ready (goal.at.write_cycles-requires-clause-ready c).After-is_write)

pub write_cycles-requires-clause-writes : goal.write_cycles-requires-clause-writes
write_cycles-requires-clause-writes c =
    let access = c.args.access.now in
    let parts = rw (← c.as_slice-cycles.ensures.value) at c.cycles_of-cut.ensures.parts in
    all_write access c.as_slice-cycles.result.now
    (writes_when c.is_write.ensures.write c.if-is_write.true)
    (rw parts (c.law_parts.ensures.cut access c.requires.wide).each)

pub returns-then-is_write-clause-answer : goal.returns-then-is_write-clause-answer
unfolding wide_value
returns-then-is_write-clause-answer c = λ setup history kept image.
    let decoded = parts_answered _ _ _ _ (c.cycles_of-cut.ensures.decoded setup (byte_of setup history)
    (c.regs.ensures.stand setup history kept.registers) image) in
    record {
      value_is = rw (writes_when c.is_write.ensures.write c.if-is_write.true) refl;
      each = c.parts_of-parts.ensures.answers ∙ rw (← c.as_slice-cycles.ensures.value) at decoded;
    }

pub returns-then-is_write-clause-board : goal.returns-then-is_write-clause-board
returns-then-is_write-clause-board c = λ setup history entry kept image event replied.
    let parts = rw (← c.as_slice-cycles.ensures.value) at c.cycles_of-cut.ensures.parts in
    state_put kept (writes_none setup history entry.event (λ port is. cc)) (rw event tt)
    (λ cell. rw (event, replied, c.parts_of-parts.ensures.answers, ← parts) refl) c.write_cycles.ensures.put

pub read_cycles-requires-clause-ready : goal.read_cycles-requires-clause-ready
read_cycles-requires-clause-ready c = ready (goal.at.read_cycles-requires-clause-ready c).After-is_write

pub returns-clause-answer : goal.returns-clause-answer
unfolding wide_value
returns-clause-answer c = λ setup history kept image.
    let parts = rw (← c.as_slice-cycles.ensures.value) at c.cycles_of-cut.ensures.parts in
    let decoded = rw (← c.as_slice-cycles.ensures.value) at
    (parts_answered _ _ _ _ (c.cycles_of-cut.ensures.decoded setup (byte_of setup history)
    (c.regs.ensures.stand setup history kept.registers) image)) in
    let value = rw parts at (c.read_cycles.ensures.value setup history kept.stores image (rw parts decoded)) in
    record {
      value_is = rw (writes_when c.is_write.ensures.write c.if-is_write.false, value) refl;
      each = c.parts_of-parts.ensures.answers ∙ decoded;
    }

pub returns-clause-board : goal.returns-clause-board
returns-clause-board c = λ setup history entry kept image event replied.
    let access = c.args.access.now in
    state_stays kept (writes_none setup history _ (λ port is. cc)) (rw event tt)
    (λ cell. rw (event, replied)
    (parts_none _ _ (parts_list c.parts_of-parts.result) cell (writes_when c.is_write.ensures.write c.if-is_write.false)
    (c.law_parts.ensures.cut access c.requires.wide).each))
