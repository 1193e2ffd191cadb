use Rattle.std.proofs.Common.{◌≤◌, arith}
use Rattle.map_publish.proofs.sight.Sight.search.Goals as goal

pub invariant_of-self : goal.invariant_of-self
invariant_of-self c =
    let was = c.self.invariant in
    let span = c.span_in-span.result in
    record {
      room = was.room;
      within = was.within;
      tiles = was.tiles;
      spans = λ some setup bytes flat.
          let low : span.lo ≤ span.lo = omega arith in
          assumption (c.span_in-span.ensures.span setup bytes flat, some);
    }

pub returns-clause-span : goal.returns-clause-span
returns-clause-span c setup bytes flat = c.span_in-span.ensures.span setup bytes (rw (← c.self.view_is) at flat)
