use Rattle.std.proofs.Common.{rules}
use Rattle.logs.specs.LinesFrom.{lines_from}
use Rattle.logs.proofs.Parts.{appended_line}
use Rattle.logs.proofs.log.push_lines.Goals as goal

pub loop-index-init : goal.loop-index-init
unfolding lines_from
loop-index-init c = search rules

pub loop-index-preserved : goal.loop-index-preserved
loop-index-preserved c =
    appended_line c.args.first c.args.entries.now c.loop-index.index _ c.loop-index-test.true _ _ _
    c.loop-index.invariant c.in_ok-push_line.ensures.appended
