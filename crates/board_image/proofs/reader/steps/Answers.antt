use Rattle.std.proofs.lemmas.Result.{err_from_is_err_and}
use Rattle.byte_fields.proofs.Loops.{goes_on, stops, is_done}
use Rattle.board_image.proofs.ImageLoops.{steps_loop}
use Rattle.board_image.proofs.reader.steps.Goals as goal

pub returns-in_err-step : goal.returns-in_err-step
returns-in_err-step c =
    let p = err_from_is_err_and c.from_residual-in_err-step.result c.from_residual-in_err-step.ensures.1 in
    record {
      filled = λ setup same. rw (p.1, p.2) (stops _ _ _ steps_loop _ _ _ _ _ _ _ c.loop-test.true
          (c.in_err-step.ensures.took setup same) (c.loop.invariant setup same));
    }

pub loop-preserved : goal.loop-preserved
loop-preserved c setup same =
    rw c.in_ok-push.ensures.items (goes_on _ _ _ steps_loop _ _ _ _ _ _ c.in_ok-step.field-0 _ c.loop-test.true
    (c.in_ok-step.ensures.took setup same) (c.loop.invariant setup same))

pub returns : goal.returns
returns c = record {
  filled = λ setup same. is_done _ _ _ steps_loop _ _ _ _ _ _ c.loop-test.false (c.loop.invariant setup same);
}
