use Rattle.map_blame.proofs.keep.is_last_after.Goals as goal

pub returns-in-Some : goal.returns-in-Some
returns-in-Some c = record {
  last = λ setup bytes stands cards. rw c.in-Some.ensures.1 at (c.is_last.ensures.last setup bytes stands);
}
