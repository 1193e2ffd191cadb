use Rattle.std.proofs.Common.{arith}
use Rattle.std.proofs.lemmas.List.{length-map}
use Rattle.map_builder.specs.Ranges.{range_of}
use Rattle.map_builder.proofs.BuildLemmas.{is_whole}
use Rattle.map_builder.proofs.build.ranges_of.Goals as goal

pub push-requires : goal.push-requires
push-requires g c =
    let few = c.rows_in-last.ensures.built.few c.requires.board in
    omega (arith, length-map c.rows_in-last.new.ranges.items range_of)

pub returns : goal.returns
returns g c =
    let is = is_whole c.requires.board _ _ c.rows_in-last.ensures.built in
    rw c.push.ensures.items (record { tiles = is.tiles; map = is.is_map; few = is.few })
