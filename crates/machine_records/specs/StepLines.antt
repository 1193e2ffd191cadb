-- The interrupt lines over a step: their levels after it, and which of them rose in it.
use Rattle.std.specs.Prelude.{ℕ, ◌≡◌, ◌-◌, Bool, false, nat_lt, bit_and, bit_or, List}
use Rattle.board_prelude.specs.{PitState, rises, Entry, Event, Pulses, timer_of}
use Rattle.board_chipset.specs.Chipset.{Running, IsLeftBy}
use Rattle.uart_16550.specs.declared.com1.Happening.{Happening}
use Rattle.uart_16550.specs.declared.com1.Happening.TheVariants.{Comes, Happens}
use Rattle.machine_records.specs.declared.reply.ReplyRecord.{ReplyRecord}
use Rattle.machine_records.specs.Numbers.{flag}
use Rattle.machine_records.specs.Lines.{AreLinesOf}
use Rattle.machine_records.specs.Replies.{with_lines}

-- OUT of counter 0 rises at one of the pulses that an event gives, where the timer stands so
abbrev pub pulses_rise : PitState → Event → Bool
pulses_rise timer (Pulses count) = nat_lt 0 (rises count timer)
pulses_rise timer _ = false

abbrev pub rises_by : PitState → Happening → Bool
rises_by timer (Comes byte) = false
rises_by timer (Happens event) = pulses_rise timer event

-- whether it does, of the timer that the chipset holds and of each history that left it so
pub record IsPulsed (chipset : Running) (asked : Happening) (is_pulsed : Bool) : Type 0 where
  pub held : is_pulsed ≡ rises_by chipset.state.devices.timer asked
  pub left : (history : List Entry) → IsLeftBy chipset history → is_pulsed ≡ rises_by (timer_of history) asked

-- A line has risen in a step where it is at 1 after it and was at 0 before; and line 0 also where OUT of counter 0 rose
-- at one of the step's pulses. A bit a line
abbrev pub risen : (before after : ℕ) → (is_pulsed : Bool) → ℕ
risen before after is_pulsed = bit_or (bit_and after (0xFFFF - before)) (flag is_pulsed)

-- the record of a step's reply has the levels of the lines after it, and which of them rose in it
pub record AreLinesTold (old new : Running) (asked : Happening) (plain said : ReplyRecord) : Type 0 where
  pub before : ℕ
  pub after : ℕ
  pub is_pulsed : Bool
  pub were : AreLinesOf old before
  pub are : AreLinesOf new after
  pub pulsed : IsPulsed old asked is_pulsed
  pub told : said ≡ with_lines plain after (risen before after is_pulsed)
