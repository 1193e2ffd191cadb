use Rattle.std.proofs.Common.{◌++◌, refl, ap, ◌∙◌}
use Rattle.board_spec.proofs.OrderLawProofs.{statements-append}
use Rattle.board_prelude.proofs.{statements_of}
use Rattle.board_image.proofs.laws.law_goes_on.Goals as goal

pub returns : goal.returns
returns c = record {
  goes_on = λ setup saved loaded more legal replay all. (
    c.law_one_replay.ensures.one setup (statements_of saved) loaded saved replay
        (record { legal = legal; same = refl }),
    record {
      legal = all;
      same = statements-append more loaded ∙ ap (λ first. first ++ statements_of more) replay.same;
    },
  );
}
