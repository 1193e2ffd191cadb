-- Nothing is left to read.
use Rattle.std.proofs.Common.{◌≡◌, [], arith}
use Rattle.board_prelude.proofs.{nil_from_length}
use Rattle.machine.proofs.FittedFormat.{none_left}
use Rattle.machine.proofs.memory_reader.last_pages.Goals as goal

pub returns-then-len-eq0 : goal.returns-then-len-eq0
returns-then-len-eq0 c =
    let empty : c.args.fields.now ≡ [] =
    nil_from_length c.args.fields.now (omega (arith, c.len.ensures.length, c.if-len-eq0.true)) in
    record { filled = rw (empty) (none_left c.args.count (omega (arith, c.if-count-gt0.true))) }
