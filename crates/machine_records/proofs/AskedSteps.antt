-- The record of a reply is what answered, and then what stands after the step.
use Rattle.std.proofs.Common.{◌≡◌, ℕ, List, arith, refl, subst}
use Rattle.board_prelude.proofs.{nat_tests, Entry}
use Rattle.board_chipset.specs.declared.reset_control.ResetKind.TheVariants.{None as NoReset}
use Rattle.board_chipset.specs.Chipset.{Running, IsLeftBy as IsChipsetLeftBy}
use Rattle.uart_16550.specs.Serial.{Serial}
use Rattle.uart_16550.specs.declared.com1.SerialReply.{SerialReply}
use Rattle.machine_records.specs.declared.reply.ReplyRecord.{ReplyRecord}
use Rattle.machine_records.specs.Replies.{AfterStep, blank, bus_said, cleared, look_said, record_said, serial_said}
use Rattle.machine_records.specs.Replies.{uart_said, wide_said, with_after, with_lines, with_reply}
use Rattle.machine_records.specs.Lines.{AreLinesOf}
use Rattle.machine_records.specs.Now.{IsNow}
use Rattle.machine_records.specs.Steps.{after_step, held_after}

pub whole : (before : ReplyRecord) (reply : SerialReply) (after : AfterStep) →
    with_after (with_reply before reply) after ≡ serial_said reply after
unfolding serial_said record_said bus_said wide_said look_said uart_said blank
whole before reply after = grind (arith, nat_tests)

-- and one in which nothing answered is what stands alone
stands : (before empty after : ReplyRecord) (stood : AfterStep) (lines : ℕ) → empty ≡ cleared before →
    after ≡ with_after empty stood → with_lines after lines 0 ≡ with_lines (blank stood) lines 0
unfolding blank
stands before empty after stood lines nothing told = rw (told, nothing) refl

pub now_told : (serial : Serial Running) (board : Running) (before empty after : ReplyRecord) (lines : ℕ) →
    board ≡ serial.board → AreLinesOf board lines → empty ≡ cleared before →
    after ≡ with_after empty (held_after serial NoReset) →
    ((history : List Entry) → IsChipsetLeftBy serial.board history →
    after ≡ with_after empty (after_step serial.board.setup history NoReset serial.com1)) →
    IsNow serial (with_lines after lines 0)
now_told serial board before empty after lines same are nothing held left = record {
  lines = lines;
  are = subst (λ (chipset : Running). AreLinesOf chipset lines) same are;
  held = stands before empty after _ lines nothing held;
  left = λ history is. stands before empty after _ lines nothing (left history is.left);
}
