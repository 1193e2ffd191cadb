use Rattle.std.proofs.Common.{arith}
use Rattle.board_prelude.proofs.{err_from_is_err_and, All-push, length_push}
use Rattle.dram_store.specs.Bank.{IsBank}
use Rattle.dram_store.proofs.StateFormats.{bank_failed, bank_read}
use Rattle.dram_store.proofs.dram.Dram.read_state.Goals as goal

pub returns-in_err-load_state : goal.returns-in_err-load_state
returns-in_err-load_state c =
    let p = err_from_is_err_and c.from_residual-in_err-load_state.result c.from_residual-in_err-load_state.ensures.1 in
    record {
      filled =
          rw (p.1, p.2)
          (bank_failed c.args.mib c.loop.counter c.loop.banks.items _ _ c.loop.invariant.read _ c.load_state.new.fields
          c.loop-test.true c.in_err-load_state.ensures.filled);
    }

pub loop-preserved : goal.loop-preserved
loop-preserved c =
    let banks = c.loop.banks.items in
    let bank = c.in_ok-load_state.field-0 in
    rw c.in_ok-push.ensures.items (record {
      read =
          bank_read c.args.mib c.loop.counter banks _ _ c.loop.invariant.read bank _ c.loop-test.true
          c.in_ok-load_state.ensures.filled;
      count = omega (arith, length_push banks bank, c.loop.invariant.count);
      each = All-push IsBank banks bank c.loop.invariant.each c.in_ok-load_state.ensures.size;
    })
