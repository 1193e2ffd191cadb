use Rattle.std.proofs.Common.{◌+◌, ap, ◌∙◌, arith}
use Rattle.board_prelude.proofs.{err_from_is_err_and, length_push}
use Rattle.byte_fields.proofs.Loops.{goes_on, stops, is_done}
use Rattle.machine.proofs.FittedFormat.{identities_loop}
use Rattle.machine.proofs.identities.read_some.Goals as goal

pub returns-in_err-read_identity : goal.returns-in_err-read_identity
returns-in_err-read_identity c =
    let p = err_from_is_err_and c.from_residual.result c.from_residual.ensures.1 in
    record {
      took = rw p.1 (stops _ _ _ identities_loop _ tt _ _ _ _ _ c.loop-test.true c.in_err-read_identity.ensures.took
          c.loop.invariant.read);
    }

pub push-requires : goal.push-requires
push-requires c = (omega arith, omega arith)

pub loop-preserved : goal.loop-preserved
loop-preserved c =
    let card = c.in_ok-read_identity.field-0 in
    record {
      read = rw c.push.ensures.items (goes_on _ _ _ identities_loop _ tt _ _ _ _ card _ c.loop-test.true
          c.in_ok-read_identity.ensures.took c.loop.invariant.read);
      count = rw c.push.ensures.items (length_push c.loop.cards.items card ∙ ap (λ n. n + 1) c.loop.invariant.count);
    }

pub returns : goal.returns
returns c = record {
  took = is_done _ _ _ identities_loop _ tt _ _ _ _ c.loop-test.false c.loop.invariant.read;
}
