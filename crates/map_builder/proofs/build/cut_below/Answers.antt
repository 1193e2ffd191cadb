use Rattle.std.proofs.Common.{arith}
use Rattle.map_builder.proofs.RebuildLemmas.{built_to_interval}
use Rattle.map_builder.proofs.build.cut_below.Goals as goal

pub returns : goal.returns
returns g c =
    let on = rw c.requires.same at (rw c.truncate-2.ensures.items at c.range_at.ensures.goes_on) in
    record {
      built =
          built_to_interval c.args.lo (omega arith) c.args.before.now c.requires.below c.args.from c.row.result.areas
          c.requires.holds (omega arith) c.row.ensures.areas on;
      step = c.row.ensures.step;
    }
