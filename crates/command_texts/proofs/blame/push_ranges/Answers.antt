use Rattle.command_texts.specs.Blame.{blamed_text}
use Rattle.command_texts.proofs.TextLines.{lines_more}
use Rattle.command_texts.proofs.blame.push_ranges.Goals as goal

pub loop-blamed-preserved : goal.loop-blamed-preserved
loop-blamed-preserved c = λ setup history are.
    lines_more (blamed_text setup history) c.args.ranges.now c.loop-blamed.blamed-index _ c.loop-blamed-test.true _ _ _
    (c.loop-blamed.invariant setup history are) (c.in_ok-push_blamed.ensures.appended setup history are)
