use Rattle.std.proofs.Common.{arith}
use Rattle.std.proofs.lemmas.List.{length-map}
use Rattle.addr_decode.specs.MapRegs.{map_bytes}
use Rattle.map_builder.specs.Map.{range_of}
use Rattle.map_builder.proofs.BuildLemmas.{built_step, one_address}
use Rattle.map_builder.proofs.build.row_at.Goals as goal

pub range_at-requires-clause-room : goal.range_at-requires-clause-room
range_at-requires-clause-room g c =
    omega (arith, c.requires.built.few c.requires.board, length-map c.args.ranges.now.items range_of)

pub returns : goal.returns
returns g c = record {
  built = built_step _ (omega (arith, c.requires.above)) (omega arith) (one_address (map_bytes c.args.regs.now) _ _
      (omega (arith, c.requires.above))) c.row.ensures.areas c.range_at.ensures.goes_on c.requires.built;
  step = c.row.ensures.step;
}
