-- One second of the clock, as an event.
use Rattle.std.specs.Prelude.{◌≡◌, List, Some}
use Rattle.board_prelude.specs.{Moment, Entry, Time, clock_of}
use Rattle.cmos_clock.specs.Seconds.{IsNextSecond, HasNoNext}
use Rattle.board_chipset.specs.Chipset.{Running, IsLeftBy}
use Rattle.uart_16550.specs.declared.com1.Happening.TheVariants.{Happens}
use Rattle.uart_16550.specs.Serial.{Serial}
use Rattle.machine_records.specs.declared.event.EventRecord.{EventRecord}
use Rattle.machine_records.specs.declared.reply.ReplyRecord.{ReplyRecord}
use Rattle.machine_records.specs.Events.{asked_said}
use Rattle.machine_records.specs.StepLines.{AreLinesTold}
use Rattle.machine_records.specs.Steps.{IsAskedStep}

-- The clock was told the second after the one that its registers said, whatever history left it; a record that says
-- this event, and the reply.
pub record IsSecondStep (old new : Serial Running) (event : EventRecord) (said : ReplyRecord) : Type 0 where
  pub next : Moment
  pub held : IsNextSecond old.board.state.devices.clock next
  pub is_next : (history : List Entry) → IsLeftBy old.board history → IsNextSecond (clock_of history) next
  pub event_said : asked_said event ≡ Some (Happens (Time next))
  pub plain : ReplyRecord
  pub step : IsAskedStep old new plain (Happens (Time next))
  pub told : AreLinesTold old.board new.board (Happens (Time next)) plain said

-- SET holds the time, or the registers say no moment.
pub record HasNoSecond (chipset : Running) : Type 0 where
  pub held : HasNoNext chipset.state.devices.clock
  pub left : (history : List Entry) → IsLeftBy chipset history → HasNoNext (clock_of history)
