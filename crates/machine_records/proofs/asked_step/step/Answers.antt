use Rattle.std.proofs.Common.{sym}
use Rattle.machine.specs.Roms.{roms_in}
use Rattle.machine_records.specs.Events.{asked_said}
use Rattle.machine_records.proofs.FittedSteps.{machine_outcome}
use Rattle.machine_records.proofs.asked_step.step.Goals as goal

pub returns-clause-outcome : goal.returns-clause-outcome
returns-clause-outcome c =
    let inside = c.machine.inside in
    rw (sym c.machine.view_is)
    (machine_outcome (asked_said c.args.event.now) c.asked-status.result inside.serial c.asked-status.new.serial
    c.board.result.now c.board-2.result.now c.board-3.result.now c.deref.result.now inside.identities.items
    (roms_in inside.roms) c.args.event.now c.args.reply.now c.asked-status.new.reply c.fit_reply.new.reply
    c.tell_lines.new.reply c.lines_of-before.result c.is_pulsed-is_pulsed.result c.board.ensures.board
    c.lines_of-before.ensures.lines c.board-2.ensures.board c.is_pulsed-is_pulsed.ensures.pulsed
    c.board-3.ensures.board c.deref.ensures.0 c.asked-status.ensures.outcome c.fit_reply.ensures.fitted
    c.fit_reply.ensures.same c.tell_lines.ensures.lines c.tell_lines.ensures.told c.tell_lines.ensures.same)
