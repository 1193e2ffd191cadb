-- No masked level passes outside special mask mode.
use Rattle.device_spec.proofs.Levels.{levels_where-same, has-levels_where}
use Rattle.std.proofs.Common.{refl, false}
use Rattle.pic_pair.proofs.chip.Pic.blocking.Goals as goal

pub returns-else-self : goal.returns-else-self
returns-else-self c = record {
  blocking = rw (c.difference-else-self.ensures.rest, c.empty.ensures.none, ← c.self.view_is)
      (levels_where-same _ _ (λ l h. rw (c.if-self.false, has-levels_where (λ _. false) l h) refl));
}
