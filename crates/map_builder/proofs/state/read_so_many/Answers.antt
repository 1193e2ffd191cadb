use Rattle.std.proofs.Common.{◌+◌, ap, ◌∙◌}
use Rattle.board_prelude.proofs.{err_from_is_err_and, length_push}
use Rattle.byte_fields.proofs.Loops.{goes_on, stops, is_done}
use Rattle.map_builder.proofs.StateFormat.{windows_loop}
use Rattle.map_builder.proofs.state.read_so_many.Goals as goal

pub returns-in_err-read_window : goal.returns-in_err-read_window
returns-in_err-read_window c =
    let p = err_from_is_err_and c.from_residual.result c.from_residual.ensures.1 in
    record {
      took = rw p.1 (stops _ _ _ windows_loop _ tt _ _ _ _ _ c.loop-test.true c.in_err-read_window.ensures.took
          c.loop.invariant.read);
    }

pub loop-preserved : goal.loop-preserved
loop-preserved c =
    let window = c.in_ok-read_window.field-0 in
    record {
      read = rw c.push.ensures.items (goes_on _ _ _ windows_loop _ tt _ _ _ _ window _ c.loop-test.true
          c.in_ok-read_window.ensures.took c.loop.invariant.read);
      count =
          rw c.push.ensures.items (length_push c.loop.windows.items window ∙ ap (λ n. n + 1) c.loop.invariant.count);
    }

pub returns : goal.returns
returns c = record {
  took = is_done _ _ _ windows_loop _ tt _ _ _ _ c.loop-test.false c.loop.invariant.read;
}
