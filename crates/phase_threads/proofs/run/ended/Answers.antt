use Rattle.phase_threads.proofs.EndedLines.{has_ended}
use Rattle.phase_threads.proofs.run.ended.Goals as goal

pub new-requires : goal.new-requires
new-requires c = record {
  ended = has_ended c.args.placing.order c.args.run.board.entries c.args.run.works.items _ c.in_ok-lines.ensures.lines
      c.requires.up_to c.requires.actors c.requires.told;
}
