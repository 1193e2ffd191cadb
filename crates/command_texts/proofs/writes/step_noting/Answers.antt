use Rattle.std.proofs.Common.{rules, ◌≡◌, ◌+◌, length, arith}
use Rattle.board_prelude.proofs.{Entry, next_entry}
use Rattle.command_texts.proofs.MapWrites.{writes_same, writes_more}
use Rattle.command_texts.proofs.writes.step_noting.Goals as goal

pub returns-in_ok-add-clause-writes : goal.returns-in_ok-add-clause-writes
returns-in_ok-add-clause-writes c =
    let board = c.args.board.now in
    let entry : Entry = next_entry board.entries c.args.statement.now.actor c.args.statement.now.event c.step.result in
    let count : c.count.result ≡ length board.entries + 1 =
    omega (arith, rw c.step.ensures.entry at c.count.ensures.count) in
    rw c.step.ensures.entry
    (writes_more _ entry _ _ _ c.add.new.self (search rules) c.in_ok-add.ensures.change
    (rw count at c.in_ok-add.ensures.entry) c.requires.writes)

pub returns-in_default-clause-writes : goal.returns-in_default-clause-writes
returns-in_default-clause-writes c =
    let board = c.args.board.now in
    let entry : Entry = next_entry board.entries c.args.statement.now.actor c.args.statement.now.event c.step.result in
    rw c.step.ensures.entry (writes_same _ entry _ _ (search rules) c.requires.writes)
