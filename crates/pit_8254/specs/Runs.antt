-- A run of pulses of one counter, part by part.
use Rattle.std.specs.Prelude.{◌≡◌, ◌+◌, ◌-◌, ◌<◌, ◌≤◌, Bool, true, false}
use Rattle.device_spec.specs.Pit.{Mode, TerminalCount, OneShot, RateGenerator, SquareWave, SoftwareStrobe}
use Rattle.device_spec.specs.Pit.{HardwareStrobe, CounterState, is_periodic}
use Rattle.device_spec.specs.PitLaws.{pulses_of}
use Rattle.device_spec.specs.PitPeriods.{IsAtLoad}
use Rattle.pit_8254.specs.Quiet.{HasCount, rises_of, is_due, counts}
use Rattle.pit_8254.specs.declared.counting.running.Run.{Run}

-- from one counter to another by the pulses of a part of a run
pub record IsPart (gate : Bool) (from to : CounterState) (before after : Run) : Type 0 where
  pub fewer : after.left ≤ before.left
  pub state : to ≡ pulses_of gate (before.left - after.left) from
  pub rose : after.rose ≡ before.rose + rises_of gate (before.left - after.left) from

-- OUT rises at most once a pulse, and so the count of its rises has room
abbrev pub HasRoom : Run → Type 0
HasRoom run = run.rose + run.left < 0x1_0000_0000

-- ---- a counter after a pulse

-- Nothing is due but the end of a strobe, and a count that goes on is above 0.
abbrev pub SettledIn : Mode → Bool → CounterState → Type 0
SettledIn TerminalCount gate c =
    (is_due TerminalCount c ≡ false) × (counts TerminalCount gate c ≡ true → c.out ≡ false → 1 ≤ c.element)
SettledIn OneShot gate c =
    (is_due OneShot c ≡ false) × (counts OneShot gate c ≡ true → c.out ≡ false → 1 ≤ c.element)
SettledIn RateGenerator gate c = (c.load_asked ≡ false) × (counts RateGenerator gate c ≡ true → 1 ≤ c.element)
SettledIn SquareWave gate c = c.load_asked ≡ false
SettledIn SoftwareStrobe gate c =
    (c.load_asked ≡ false) × (c.expired ≡ false → c.out ≡ true)
    × (c.expired ≡ false → counts SoftwareStrobe gate c ≡ true → 1 ≤ c.element)
SettledIn HardwareStrobe gate c =
    (c.expired ≡ false → c.out ≡ true) × (c.expired ≡ false → counts HardwareStrobe gate c ≡ true → 1 ≤ c.element)

pub record IsSettled (of_mode : Mode) (gate : Bool) (c : CounterState) : Type 0 where
  pub mode : c.mode ≡ of_mode
  pub trigger : c.trigger ≡ false
  pub kept : HasCount of_mode c.count c.load_asked c.started
  pub by_mode : SettledIn of_mode gate c

-- ---- the first place of a period

-- directly after a load of the count written last, which left OUT at 1, with the gate at 1
pub record IsAtPeriod (gate : Bool) (c : CounterState) : Type 0 where
  pub gate_on : gate ≡ true
  pub periodic : is_periodic c.mode ≡ true
  pub least : 2 ≤ c.in_use
  pub load : IsAtLoad c.mode c.in_use true c
