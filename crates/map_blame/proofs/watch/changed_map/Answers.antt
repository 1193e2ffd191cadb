use Rattle.map_blame.proofs.watch.changed_map.Goals as goal

pub returns : goal.returns
returns c = record {
  after = λ setup start. rw c.from_scratch.ensures.regs
      (c.changed_regs.ensures.after setup (rw c.regs.ensures.regs start));
}
