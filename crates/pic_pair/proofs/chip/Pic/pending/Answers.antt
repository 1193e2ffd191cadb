-- The union of two sets, by levels.
use Rattle.pic_pair.proofs.ChipLemmas.{either-of}
use Rattle.std.proofs.Common.{arith}
use Rattle.device_spec.proofs.Levels.{levels_where-same, has-levels_where}
use Rattle.std.proofs.lemmas.Bool.Decides.{nat_tests}
use Rattle.device_spec.specs.Pic.{pending}
use Rattle.pic_pair.proofs.chip.Pic.pending.Goals as goal

pub returns : goal.returns
unfolding pending
returns c =
    record {
      pending = rw (
        c.union.ensures.either,
        c.intersection-high.ensures.both,
        c.difference-latched.ensures.rest,
        ← c.self.view_is,
      ) (grind (arith, nat_tests, levels_where-same, has-levels_where, either-of));
    }
