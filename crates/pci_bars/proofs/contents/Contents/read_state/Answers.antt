use Rattle.std.proofs.Common.{arith}
use Rattle.board_prelude.proofs.{err_from_is_err_and, length_push}
use Rattle.std.proofs.lemmas.List.{map_push}
use Rattle.byte_fields.proofs.Loops.{goes_on, is_done}
use Rattle.pci_bars.proofs.StateFormats.{slots_loop, slot_failed}
use Rattle.pci_bars.proofs.contents.Contents.read_state.Goals as goal
use Rattle.std.proofs.lemmas.Bool.Decides.{nat_tests}

pub returns-in_err-read_buffer : goal.returns-in_err-read_buffer
returns-in_err-read_buffer c = grind (
  arith,
  nat_tests,
  err_from_is_err_and,
  slot_failed,
  c.from_residual.ensures.1,
  c.loop-slot.invariant.read,
  c.slot_size-size.ensures.size,
  c.in_err-read_buffer.ensures.filled,
)

pub loop-slot-preserved : goal.loop-slot-preserved
loop-slot-preserved c =
    let buffers = c.loop-slot.buffers.items in
    let buffer = c.in_ok-read_buffer.field-0 in
    record {
      read =
          rw (c.in_ok-push.ensures.items, map_push (λ buffer. buffer.items) buffers buffer)
          (goes_on _ _ _ (slots_loop c.args.specs.now) _ _ 64 _ _ _ buffer.items _ c.loop-slot-test.true
          (rw c.slot_size-size.ensures.size at c.in_ok-read_buffer.ensures.filled) c.loop-slot.invariant.read);
      count = rw c.in_ok-push.ensures.items (omega (arith, length_push buffers buffer, c.loop-slot.invariant.count));
    }

pub returns : goal.returns
returns c = record {
  filled = is_done _ _ _ (slots_loop c.args.specs.now) _ _ 64 _ _ _ c.loop-slot-test.false c.loop-slot.invariant.read;
}
