-- The record of a reply, with what stands after its step.
use Rattle.std.specs.Prelude.{ℕ, Bool, Option, Some, None}
use Rattle.board_chipset.specs.declared.reset_control.ResetKind.{ResetKind}
use Rattle.board_prelude.specs.{Area, Target, Denial, Register, Confadd, NoRegister, Part, Parts, Look, Reply}
use Rattle.board_base.specs.declared.target.Area.TheVariants as areas
use Rattle.board_base.specs.declared.target.Target.TheVariants as targets
use Rattle.board_spec.specs.declared.event.Parts.TheVariants as parts
use Rattle.board_spec.specs.declared.event.Reply.TheVariants as replies
use Rattle.uart_16550.specs.declared.com1.SerialReply.{SerialReply}
use Rattle.uart_16550.specs.declared.com1.SerialReply.TheVariants.{Board as OfBoard, Uart as OfUart}
use Rattle.machine_records.specs.declared.reply.PartRecord.{PartRecord}
use Rattle.machine_records.specs.declared.reply.ReplyRecord.{ReplyRecord}
use Rattle.machine_records.specs.Numbers.{dram_target, shadow_target, smram_target, rom_target, card_target}
use Rattle.machine_records.specs.Numbers.{device_target, config_target, abort_target, device_number, uart_device}
use Rattle.machine_records.specs.Numbers.{register_denial, confadd_denial, no_register_denial, bus_reply, parts_reply}
use Rattle.machine_records.specs.Numbers.{look_reply, reset_number, flag}

-- ---- one part

abbrev pub placed : (target unit base offset : ℕ) → PartRecord
placed target unit base offset =
    record {
      offset = offset;
      target = target;
      unit = unit;
      base = base;
      denial = 0;
      denial_dev = 0;
      denial_fun = 0;
      denial_off = 0;
      reserved = 0;
    }

-- nothing: the record of zeros
abbrev pub no_part : PartRecord
no_part = placed 0 0 0 0

abbrev pub target_said : Target → PartRecord
target_said (targets.Dram row) = placed dram_target row 0 0
target_said (targets.Shadow row) = placed shadow_target row 0 0
target_said targets.Smram = placed smram_target 0 0 0
target_said (targets.Rom offset) = placed rom_target 0 0 offset
target_said (targets.Card dev base offset) = placed card_target dev base offset
target_said (targets.Device dev) = placed device_target (device_number dev) 0 0
target_said (targets.Config reg) = placed config_target reg.dev reg.fun reg.off
target_said targets.Abort = placed abort_target 0 0 0

abbrev pub area_said : Area → PartRecord
area_said (areas.Dram row) = placed dram_target row 0 0
area_said (areas.Shadow row) = placed shadow_target row 0 0
area_said areas.Smram = placed smram_target 0 0 0
area_said areas.Rom = placed rom_target 0 0 0
area_said (areas.Card dev base) = placed card_target dev base 0
area_said areas.Abort = placed abort_target 0 0 0

abbrev pub with_denial : PartRecord → Option Denial → PartRecord
with_denial part None = part
with_denial part (Some (Register reg)) =
    record part { denial = register_denial; denial_dev = reg.dev; denial_fun = reg.fun; denial_off = reg.off }
with_denial part (Some Confadd) = record part { denial = confadd_denial }
with_denial part (Some NoRegister) = record part { denial = no_register_denial }

unfoldable pub part_said : Target → Option Denial → PartRecord
part_said target denial = with_denial (target_said target) denial

-- ---- the whole

-- what stands after a step: the version of the map, whether INT is asserted, the reset that the step made, the level of
-- interrupt line 4, and whether COM1 has room for a byte
pub record AfterStep : Type 0 where
  pub version : ℕ
  pub interrupt : Bool
  pub reset : ResetKind
  pub irq4 : Bool
  pub serial_room : Bool

-- what every record has of what stands after the step, but for the interrupt lines, which are written last
unfoldable pub blank : AfterStep → ReplyRecord
blank after = record {
  value = 0;
  version = after.version;
  seen = 0;
  lo = 0;
  hi = 0;
  form = 0;
  has_value = 0;
  parts = 0;
  interrupt = flag after.interrupt;
  reset = reset_number after.reset;
  part0 = no_part;
  part1 = no_part;
  part2 = no_part;
  part3 = no_part;
  sent = 0;
  has_sent = 0;
  irq4 = flag after.irq4;
  serial_room = flag after.serial_room;
  lines = 0;
  rose = 0;
}

abbrev pub with_value : ReplyRecord → Option ℕ → ReplyRecord
with_value said None = said
with_value said (Some value) = record said { value = value; has_value = 1 }

abbrev pub of_part : Part → PartRecord
of_part part = part_said part.target part.denial

abbrev pub with_parts : ReplyRecord → Parts → ReplyRecord
with_parts said (parts.Two a b) = record said { parts = 2; part0 = of_part a; part1 = of_part b }
with_parts said (parts.Three a b c) =
    record said { parts = 3; part0 = of_part a; part1 = of_part b; part2 = of_part c }
with_parts said (parts.Four a b c d) =
    record said { parts = 4; part0 = of_part a; part1 = of_part b; part2 = of_part c; part3 = of_part d }

-- ---- the two halves of a record: what answered, and what stands after the step

-- one in which nothing answered
abbrev pub cleared : ReplyRecord → ReplyRecord
cleared said = record said {
  value = 0;
  seen = 0;
  lo = 0;
  hi = 0;
  form = 0;
  has_value = 0;
  parts = 0;
  part0 = no_part;
  part1 = no_part;
  part2 = no_part;
  part3 = no_part;
  sent = 0;
  has_sent = 0;
  lines = 0;
  rose = 0;
}

abbrev pub with_cycle : ReplyRecord → Option ℕ → Target → Option Denial → ReplyRecord
with_cycle said value target denial =
    with_value (record (cleared said) { form = bus_reply; parts = 1; part0 = part_said target denial }) value

abbrev pub with_wide : ReplyRecord → Parts → Option ℕ → ReplyRecord
with_wide said parts value = with_value (with_parts (record (cleared said) { form = parts_reply }) parts) value

abbrev pub with_look : ReplyRecord → Look → ReplyRecord
with_look said look = record (cleared said) {
  form = look_reply;
  parts = 1;
  part0 = area_said look.area;
  seen = look.version;
  lo = look.lo;
  hi = look.hi;
}

abbrev pub with_after : ReplyRecord → AfterStep → ReplyRecord
with_after said after = record said {
  version = after.version;
  interrupt = flag after.interrupt;
  reset = reset_number after.reset;
  irq4 = flag after.irq4;
  serial_room = flag after.serial_room;
}

-- the levels of the interrupt lines after a step, and which of them rose in it
abbrev pub with_lines : ReplyRecord → (lines rose : ℕ) → ReplyRecord
with_lines said lines rose = record said { lines = lines; rose = rose }

-- ---- the record of a reply

unfoldable pub look_said : Look → AfterStep → ReplyRecord
look_said look after =
    record (blank after) {
      form = look_reply;
      parts = 1;
      part0 = area_said look.area;
      seen = look.version;
      lo = look.lo;
      hi = look.hi;
    }

unfoldable pub bus_said : Option ℕ → Target → Option Denial → AfterStep → ReplyRecord
bus_said value target denial after =
    with_value (record (blank after) { form = bus_reply; parts = 1; part0 = part_said target denial }) value

unfoldable pub wide_said : Parts → Option ℕ → AfterStep → ReplyRecord
wide_said parts value after = with_value (with_parts (record (blank after) { form = parts_reply }) parts) value

unfoldable pub record_said : Reply → AfterStep → ReplyRecord
record_said (replies.Bus value target denial) after = bus_said value target denial after
record_said (replies.Parts parts value) after = wide_said parts value after
record_said (replies.Saw look) after = look_said look after

-- ---- of a board with a serial port

abbrev pub uart_part : PartRecord
uart_part = placed device_target uart_device 0 0

abbrev pub with_sent : ReplyRecord → Option ℕ → ReplyRecord
with_sent said None = said
with_sent said (Some byte) = record said { sent = byte; has_sent = 1 }

abbrev pub with_uart : ReplyRecord → Option ℕ → (sent : Option ℕ) → ReplyRecord
with_uart said value sent =
    with_sent (with_value (record (cleared said) { form = bus_reply; parts = 1; part0 = uart_part }) value) sent

-- the UART was read, or written; or COM1 received a byte, which is neither
unfoldable pub uart_said : Option ℕ → (sent : Option ℕ) → AfterStep → ReplyRecord
uart_said value sent after =
    with_sent (with_value (record (blank after) { form = bus_reply; parts = 1; part0 = uart_part }) value) sent

unfoldable pub serial_said : SerialReply → AfterStep → ReplyRecord
serial_said (OfBoard reply) after = record_said reply after
serial_said (OfUart value sent) after = uart_said value sent after

-- the answer alone
abbrev pub with_board : ReplyRecord → Reply → ReplyRecord
with_board said (replies.Bus value target denial) = with_cycle said value target denial
with_board said (replies.Parts parts value) = with_wide said parts value
with_board said (replies.Saw look) = with_look said look

abbrev pub with_reply : ReplyRecord → SerialReply → ReplyRecord
with_reply said (OfBoard reply) = with_board said reply
with_reply said (OfUart value sent) = with_uart said value sent
