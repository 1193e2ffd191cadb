use Rattle.std.proofs.Common.{ap, arith, length}
use Rattle.run_log.proofs.CutLaws.{cut_length}
use Rattle.run_log.proofs.lines.Lines.line.Goals as goal

pub line_of-requires-clause-within : goal.line_of-requires-clause-within
line_of-requires-clause-within c =
    let count = cut_length 0 c.self.inside.ends.items c.self.inside.text.items in
    omega (arith, c.requires.within, ap length c.self.view_is, count, ap length c.deref-2.ensures.value)
