-- What stands now, without a step, as the record of a reply.
use Rattle.std.specs.Prelude.{ℕ, ◌≡◌, List}
use Rattle.board_prelude.specs.{Entry}
use Rattle.board_chipset.specs.declared.reset_control.ResetKind.TheVariants.{None as NoReset}
use Rattle.board_chipset.specs.Chipset.{Running}
use Rattle.uart_16550.specs.Serial.{Serial}
use Rattle.machine_records.specs.declared.reply.ReplyRecord.{ReplyRecord}
use Rattle.machine_records.specs.Lines.{AreLinesOf}
use Rattle.machine_records.specs.Replies.{blank, with_lines}
use Rattle.machine_records.specs.Steps.{IsHistoryOf, after_step, held_after}

-- Nothing answered, there was no reset and no line rose. All else is what a reply says of what stands after its step: of
-- what the chipset and its serial port hold, and of each history that left them so
pub record IsNow (serial : Serial Running) (said : ReplyRecord) : Type 0 where
  pub lines : ℕ
  pub are : AreLinesOf serial.board lines
  pub held : said ≡ with_lines (blank (held_after serial NoReset)) lines 0
  pub left : (history : List Entry) → IsHistoryOf serial history →
      said ≡ with_lines (blank (after_step serial.board.setup history NoReset serial.com1)) lines 0
