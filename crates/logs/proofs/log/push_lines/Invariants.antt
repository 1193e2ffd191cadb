use Rattle.std.proofs.Common.{take}
use Rattle.logs.specs.Adds.{AddsWords}
use Rattle.logs.specs.LinesFrom.{lines_from}
use Rattle.logs.proofs.log.push_lines.Given as goal

-- a line for each entry so far
abbrev pub invariant-loop-index : goal.invariant-loop-index
invariant-loop-index l = AddsWords l.fn.text l.text (lines_from l.first (take l.index l.entries))
