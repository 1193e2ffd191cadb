use Rattle.std.proofs.Common.{◌+◌, ℕ, ap, ◌∙◌}
use Rattle.board_prelude.proofs.{err_from_is_err_and}
use Rattle.addr_decode.proofs.StateFormat.{one_more_read, one_bad, all_read}
use Rattle.addr_decode.proofs.state.read_cards.Goals as goal

pub returns-in_err-read_card : goal.returns-in_err-read_card
returns-in_err-read_card c =
    let p = err_from_is_err_and c.from_residual.result c.from_residual.ensures.1 in
    record {
      took =
          rw p.1 (one_bad _ _ _ _ _ c.loop-spec.invariant.read _ c.loop-spec-test.true c.spec-item.is _
          c.in_err-read_card.ensures.took);
    }

pub loop-spec-preserved : goal.loop-spec-preserved
loop-spec-preserved c = record {
  count = c.push.ensures.len ∙ ap (λ (n : ℕ). n + 1) c.loop-spec.invariant.count;
  read =
      rw c.push.ensures.items (one_more_read _ _ _ _ _ c.loop-spec.invariant.read _ c.loop-spec-test.true
      c.spec-item.is _ _ c.in_ok-read_card.ensures.took);
}

pub returns : goal.returns
returns c = record { took = all_read _ _ _ _ _ c.loop-spec.invariant.read c.loop-spec-test.false }
