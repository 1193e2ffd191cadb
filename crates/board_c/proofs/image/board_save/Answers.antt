use Rattle.std.proofs.Common.{◌≡◌, length, subst, sym, ◌∙◌, false, true≢false, arith}
use Rattle.board_prelude.proofs.{nat_tests}
use Rattle.machine.specs.Images.{IsSavedState, image_bytes}
use Rattle.machine.specs.Machines.{Saved}
use Rattle.machine.specs.Given.{without}
use Rattle.board_c.specs.Images.{IsSaveRefusal, IsSaved}
use Rattle.board_c.proofs.Full.{is_full}
use Rattle.board_c.proofs.image.board_save.Goals as goal

-- nothing is left out
without_none : (saved : Saved) → without (record { dram = false; disk = false }) saved ≡ saved
without_none saved = grind (arith, nat_tests)

pub returns-clause-call : goal.returns-clause-call
returns-clause-call c =
    let full = is_full c.args.handle.now.full c.in-Some.board c.in-Some.ensures.empty in
    let whole : Saved = c.behind-board.inside.machine.saved in
    let saved = c.save-status.ensures.outcome in
    record {
      kept = c.put.ensures.full ∙ sym full;
      says_closed = λ closed. absurd (true≢false (sym full ∙ closed));
      not_closed = λ _. saved.not_closed;
      done = λ ok.
          rw (← c.in-Some.ensures.held full)
          (rw (← c.deref.ensures) (rw (← c.behind-board.view_is)
          (subst (λ (it : Saved). IsSavedState whole × IsSaved (image_bytes it) c.args.into.now
          c.save-status.new.into c.save-status.new.bytes) (without_none whole) (saved.done ok))));
      refused = λ _ refused.
          rw (← c.in-Some.ensures.held full)
          (rw (← c.deref.ensures) (rw (← c.behind-board.view_is)
          (subst (λ (it : Saved). IsSaveRefusal (image_bytes it) (length c.args.into.now) c.save-status.result
          c.args.bytes.now c.save-status.new.bytes) (without_none whole) (saved.refused refused))));
      unchanged = λ _ _. c.put.ensures.held ∙ c.in-Some.ensures.held full;
      unfilled = λ refused. saved.unchanged refused;
    }
