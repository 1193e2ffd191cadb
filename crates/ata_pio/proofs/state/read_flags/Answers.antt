use Rattle.std.proofs.Common.{◌+◌, ap, ◌∙◌}
use Rattle.std.proofs.lemmas.Result.{err_from_is_err_and}
use Rattle.std.proofs.lemmas.List.{length_push}
use Rattle.byte_fields.proofs.Loops.{goes_on, stops, is_done}
use Rattle.ata_pio.proofs.StateFormats.{flags_loop}
use Rattle.ata_pio.proofs.state.read_flags.Goals as goal

pub returns-in_err-flag-clause-filled : goal.returns-in_err-flag-clause-filled
returns-in_err-flag-clause-filled c =
    let p = err_from_is_err_and c.from_residual-in_err-flag.result c.from_residual-in_err-flag.ensures.1 in
    rw (p.1, p.2) (stops _ _ _ flags_loop _ tt _ _ _ _ _ c.loop-test.true c.in_err-flag.ensures.took
    c.loop.invariant.read)

pub loop-preserved : goal.loop-preserved
loop-preserved c = record {
  read = rw c.in_ok-push.ensures.items (goes_on _ _ _ flags_loop _ tt _ _ _ _ c.in_ok-flag.flag _ c.loop-test.true
      c.in_ok-flag.ensures.took c.loop.invariant.read);
  count = rw c.in_ok-push.ensures.items
      (length_push c.loop.flags.items c.in_ok-flag.flag ∙ ap (λ n. n + 1) c.loop.invariant.count);
}

pub returns-clause-filled : goal.returns-clause-filled
returns-clause-filled c = is_done _ _ _ flags_loop _ tt _ _ _ _ c.loop-test.false c.loop.invariant.read
