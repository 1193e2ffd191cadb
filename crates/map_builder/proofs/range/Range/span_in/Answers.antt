use Rattle.map_builder.proofs.FindLemmas.{is_span}
use Rattle.map_builder.proofs.range.Range.span_in.Goals as goal

pub returns : goal.returns
returns c = record {
  span = λ setup bytes is_map.
      rw c.area_at.ensures.area
      (is_span setup bytes c.args.ranges.now c.column_of-column.result c.args.kind c.args.smm is_map
      (c.column_of-column.ensures.column setup bytes) c.index_of-index.result c.first_alike-first.result
      c.last_alike-last.result c.args.addr c.index_of-index.ensures.holds c.first_alike-first.ensures.first
      c.last_alike-last.ensures.last);
}
