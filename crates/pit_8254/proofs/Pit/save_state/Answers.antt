use Rattle.std.proofs.Common.{append_assoc}
use Rattle.pit_8254.proofs.Pit.save_state.Goals as goal

pub returns-clause-saved : goal.returns-clause-saved
returns-clause-saved c =
    rw (← c.self.view_is) (simp (
      c.in_ok-save_state-3.ensures.saved,
      c.in_ok-save_state-2.ensures.saved,
      c.in_ok-save_state.ensures.saved,
      append_assoc,
    ) at c.push_flag.ensures.added)
