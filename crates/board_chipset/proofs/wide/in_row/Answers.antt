use Rattle.std.proofs.Common.{◌∙◌, refl, sym}
use Rattle.board_prelude.proofs.{parts_list, byte_of, wide_value}
use Rattle.board_stores.proofs.MemoryLemmas.{parts_answered}
use Rattle.board_chipset.proofs.StateSteps.{writes_none, state_put, state_stays, sound_put}
use Rattle.board_chipset.proofs.MemorySteps.{writes_when, parts_none}
use Rattle.board_chipset.proofs.wide.in_row.Goals as goal

pub write_row-requires-clause-writes : goal.write_row-requires-clause-writes
write_row-requires-clause-writes c = writes_when c.is_write.ensures.write c.if-is_write.true

pub returns-then-is_write-clause-sound : goal.returns-then-is_write-clause-sound
returns-then-is_write-clause-sound c = λ setup sound. sound_put sound (c.write_row.ensures.put c.args.row)

pub returns-then-is_write-clause-answer : goal.returns-then-is_write-clause-answer
unfolding wide_value
returns-then-is_write-clause-answer c = λ setup history kept image.
    let answered = parts_answered _ _ _ _ (sym (c.requires.row setup (byte_of setup history) kept.registers.kept.map)) in
    record {
      value_is = rw (writes_when c.is_write.ensures.write c.if-is_write.true) refl;
      each = c.parts_in_row-parts.ensures.answers ∙ answered;
    }

pub returns-then-is_write-clause-board : goal.returns-then-is_write-clause-board
returns-then-is_write-clause-board c = λ setup history entry kept image event replied.
    state_put kept (writes_none setup history entry.event (λ port is. cc)) (rw event tt)
    (λ cell. rw (event, replied, c.parts_in_row-parts.ensures.answers) refl) (c.write_row.ensures.put c.args.row)

pub returns-then-is_write-clause-held : goal.returns-then-is_write-clause-held
returns-then-is_write-clause-held c = λ setup bytes stands image.
    c.parts_in_row-parts.ensures.answers ∙ sym (c.requires.row setup bytes stands)

pub returns-clause-answer : goal.returns-clause-answer
unfolding wide_value
returns-clause-answer c = λ setup history kept image.
    let answered = parts_answered _ _ _ _ (sym (c.requires.row setup (byte_of setup history) kept.registers.kept.map)) in
    let value = c.read_row.ensures.value setup history c.args.row kept.stores.dram (sym answered) in
    record {
      value_is = rw (writes_when c.is_write.ensures.write c.if-is_write.false, value) refl;
      each = c.parts_in_row-parts.ensures.answers ∙ answered;
    }

pub returns-clause-board : goal.returns-clause-board
returns-clause-board c = λ setup history entry kept image event replied.
    let access = c.args.access.now in
    state_stays kept (writes_none setup history _ (λ port is. cc)) (rw event tt)
    (λ cell. rw (event, replied)
    (parts_none _ _ (parts_list c.parts_in_row-parts.result) cell (writes_when c.is_write.ensures.write c.if-is_write.false)
    (c.law_parts.ensures.cut access c.requires.wide).each))

pub returns-clause-held : goal.returns-clause-held
returns-clause-held c = λ setup bytes stands image.
    c.parts_in_row-parts.ensures.answers ∙ sym (c.requires.row setup bytes stands)
