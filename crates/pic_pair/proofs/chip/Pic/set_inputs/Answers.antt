-- The latches, by levels.
use Rattle.std.proofs.Common.{refl}
use Rattle.pic_pair.proofs.ChipLemmas.{latches_are}
use Rattle.pic_pair.proofs.chip.Pic.set_inputs.Goals as goal

pub returns : goal.returns
returns c =
    let latches = latches_are c.self.inside.latches c.self.inside.inputs c.args.inputs in
    record {
      inputs = rw (
        c.difference-self-inside.ensures.rest,
        c.union.ensures.either,
        c.difference-rises.ensures.rest,
        c.difference-falls.ensures.rest,
        latches,
        ← c.self.view_is,
      ) refl;
    }
