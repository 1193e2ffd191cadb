use Rattle.std.proofs.Common.{inl, inr, sym, ◌∙◌}
use Rattle.std.proofs.lemmas.Bool.{not-true, not-false, false≢true}
use Rattle.map_blame.proofs.WatchLemmas.{next_beside, next_again, next_same}
use Rattle.map_blame.proofs.watch.Watched.after.Goals as goal
use Rattle.map_blame.proofs.watch.Watched.after.Goals.{then-range-bounds-via-then-range-bounds}
use Rattle.map_blame.proofs.watch.Watched.after.Goals.{then-range-bounds-via-else-range-bounds+then-bounds-range}
use Rattle.map_blame.proofs.watch.Watched.after.Goals.{else-stands-via-then-stands+else-not-self}
use Rattle.map_blame.proofs.watch.Watched.after.Goals.{else-stands-via-else-stands}

pub returns-then-range-bounds : goal.returns-then-range-bounds
returns-then-range-bounds c = record {
  next = next_beside c.args.map.now c.args.bounds c.args.number c.args.self c.requires.range
      (elim c.then-range-bounds.branch [
        | then-range-bounds-via-then-range-bounds w ↦ inl w.if-range-bounds.true
        | then-range-bounds-via-else-range-bounds+then-bounds-range w ↦ inr w.if-bounds-range.true
      ]);
}

pub returns-then-not-self : goal.returns-then-not-self
returns-then-not-self c = record {
  next = next_again c.args.map.now c.args.bounds c.args.number c.args.self c.requires.range c.stands-stands.result
      c.stands-stands.ensures.yes c.stands-stands.ensures.no c.if-stands.true
      (not-true c.args.self.stands c.if-not-self.true);
}

pub returns-else-stands : goal.returns-else-stands
returns-else-stands c = record {
  next = next_same c.args.map.now c.args.bounds c.args.number c.args.self c.requires.range c.stands-stands.result
      c.stands-stands.ensures.yes c.stands-stands.ensures.no (λ is. elim c.else-stands.branch [
        | else-stands-via-then-stands+else-not-self w ↦ not-false c.args.self.stands w.if-not-self.false
        | else-stands-via-else-stands w ↦ absurd (false≢true (sym w.if-stands.false ∙ is))
      ]);
}
