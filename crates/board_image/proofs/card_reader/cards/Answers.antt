use Rattle.std.proofs.Common.{◌≡◌, ap, sym, rules}
use Rattle.board_prelude.proofs.{err_from_is_err_and, FittedCard}
use Rattle.byte_fields.proofs.Loops.{goes_on, stops, is_done}
use Rattle.board_image.proofs.ImageLoops.{cards_loop}
use Rattle.board_image.proofs.card_reader.cards.Goals as goal

pub returns-in_err-card : goal.returns-in_err-card
returns-in_err-card c =
    let p = err_from_is_err_and c.from_residual-in_err-card.result c.from_residual-in_err-card.ensures.1 in
    record {
      filled = rw (p.1, p.2) (stops _ _ _ (cards_loop c.args.outside) _ _ _ _ _ _ _ c.loop-test.true c.in_err-card.ensures.took
          c.loop.invariant.read);
    }

pub loop-preserved : goal.loop-preserved
loop-preserved c =
    let card = c.in_ok-card.card in
    let dev : card.dev ≡ c.card-in-loop.inside.dev =
    sym (ap (λ (card : FittedCard). card.dev) c.card-in-loop.view_is) in
    record {
      read = rw (c.in_ok-push.ensures.items, c.in_ok-card.ensures.room, ← dev) (goes_on _ _ _ (cards_loop c.args.outside) _
          _ _ _ _ _ card _ c.loop-test.true c.in_ok-card.ensures.took c.loop.invariant.read);
      above = rw (← dev) (search rules);
    }

pub returns : goal.returns
returns c = record {
  filled = is_done _ _ _ (cards_loop c.args.outside) _ _ _ _ _ _ c.loop-test.false c.loop.invariant.read;
}
