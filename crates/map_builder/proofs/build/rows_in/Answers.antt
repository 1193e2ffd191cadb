use Rattle.std.proofs.Common.{arith}
use Rattle.std.proofs.lemmas.List.{length-map}
use Rattle.map_builder.specs.Map.{range_of}
use Rattle.addr_decode.specs.Edges.{edges_of}
use Rattle.addr_decode.proofs.EdgeCounts.{no_more}
use Rattle.map_builder.proofs.BuildLemmas.{built_step, built_over}
use Rattle.map_builder.proofs.build.rows_in.Goals as goal

pub range_at-last-requires-clause-room : goal.range_at-last-requires-clause-room
range_at-last-requires-clause-room g c =
    omega (arith, c.loop-edge.invariant.built.few c.requires.board, length-map c.loop-edge.ranges.items range_of)

pub loop-edge-preserved : goal.loop-edge-preserved
loop-edge-preserved g c = record {
  built =
      built_step c.row.result.areas c.in-Some.ensures.above (omega arith) c.in-Some.ensures.equal c.row.ensures.areas
      c.range_at-last.ensures.goes_on c.loop-edge.invariant.built;
  within = c.in-Some.ensures.within;
  rows = λ setup bytes stands.
      let rows = c.loop-edge.invariant.rows setup bytes stands in
      omega (arith, c.in-Some.ensures.fewer setup bytes stands, c.row.ensures.step);
}

pub returns : goal.returns
returns g c = record {
  built = built_over c.loop-edge.invariant.within c.in_default.ensures.equal c.loop-edge.invariant.built;
  rows = λ setup bytes stands.
      let rows = c.loop-edge.invariant.rows setup bytes stands in
      omega (arith, no_more c.loop-edge.addr c.args.interval.hi (edges_of setup bytes) c.loop-edge.invariant.within);
  fits = omega arith;
}
