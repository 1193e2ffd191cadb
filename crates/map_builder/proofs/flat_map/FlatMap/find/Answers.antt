use Rattle.map_builder.proofs.flat_map.FlatMap.find.Goals as goal

pub returns : goal.returns
returns c = record {
  span = λ setup bytes stands.
      let is_map = c.self.invariant.map setup bytes (rw (← c.self.view_is) at stands) in
      c.span_in.ensures.span setup bytes (rw c.as_slice.ensures.items is_map);
}
