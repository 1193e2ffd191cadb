use Rattle.std.proofs.Common.{sym, ◌∙◌, arith}
use Rattle.logs.proofs.AskedReading.{no_level, no_number}
use Rattle.logs.proofs.read_asked.stimulus_event.Goals as goal

pub returns-then-level-gt1 : goal.returns-then-level-gt1
returns-then-level-gt1 c = record {
  event = λ event. no_level c.args.stimulus c.args.number c.args.level event (omega (arith, c.if-level-gt1.true));
}

pub returns-then-number-gt255 : goal.returns-then-number-gt255
returns-then-number-gt255 c = record {
  event = λ event. no_number c.args.stimulus c.args.number c.args.level event (omega (arith, c.if-level-gt1.false))
      (sym c.has_level.ensures.level ∙ c.if-has_level.true) (omega (arith, c.if-number-gt255.true));
}
