use Rattle.std.proofs.Common.{ℕ, List, map, sym, subst, slice_index}
use Rattle.uart_16550.specs.declared.com1.Happening.TheVariants.{Comes}
use Rattle.command_texts.specs.SerialSteps.{Happened}
use Rattle.command_texts.proofs.Happenings.{byte_came}
use Rattle.command_texts.proofs.SerialReplays.{one_comes}
use Rattle.command_texts.proofs.serial.receive_next.Goals as goal

pub returns-clause-happened : goal.returns-clause-happened
returns-clause-happened c = λ actor.
    let old = c.args.serial.now in
    let new = c.receive.new.self in
    subst (λ (bytes : List ℕ). Happened actor old (map (λ x. Comes x) bytes) new)
    (sym (one_comes old.com1.uart c.args.input.now (sym c.if-not-room.ensures.room) c.in-len1-up.len_at_least))
    (byte_came actor (slice_index c.args.input.now 0) old new c.receive.ensures.setup c.receive.ensures.com1
    (c.receive.ensures.history old.board.entries c.requires.standing))
