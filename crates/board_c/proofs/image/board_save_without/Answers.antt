use Rattle.std.proofs.Common.{sym, ◌∙◌, true≢false}
use Rattle.board_c.proofs.Full.{is_full}
use Rattle.board_c.proofs.image.board_save_without.Goals as goal

pub returns-clause-call : goal.returns-clause-call
returns-clause-call c =
    let full = is_full c.args.handle.now.full c.in-Some.board c.in-Some.ensures.empty in
    let saved = c.save-status.ensures.outcome in
    record {
      kept = c.put.ensures.full ∙ sym full;
      says_closed = λ closed. absurd (true≢false (sym full ∙ closed));
      not_closed = λ _. saved.not_closed;
      done = λ ok.
          rw (← c.in-Some.ensures.held full) (rw (← c.deref.ensures) (rw (← c.behind-board.view_is) (saved.done ok)));
      refused = λ _ refused.
          rw (← c.in-Some.ensures.held full)
          (rw (← c.deref.ensures) (rw (← c.behind-board.view_is) (saved.refused refused)));
      unchanged = λ _ _. c.put.ensures.held ∙ c.in-Some.ensures.held full;
      unfilled = λ refused. saved.unchanged refused;
    }
