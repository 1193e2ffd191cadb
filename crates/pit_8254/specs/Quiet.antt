-- Pulses of one counter: those that change nothing but CE, how many of them come next, and how often OUT rises.
use Rattle.std.specs.Prelude.{ℕ, zero, suc, ◌≡◌, ◌+◌, ◌-◌, ◌*◌, ◌/◌, ◌%◌, ◌≤◌, ◌==◌, nat_lt, Bool, false, not, ◌&&◌}
use Rattle.std.specs.Prelude.{◌||◌, if◌then◌else◌, Option, Some, None}
use Rattle.device_spec.specs.Pit.{Mode, TerminalCount, OneShot, RateGenerator, SquareWave, SoftwareStrobe}
use Rattle.device_spec.specs.Pit.{HardwareStrobe, Notation, CounterState, modulus, is_periodic, is_counting, half_end}
use Rattle.device_spec.specs.Pit.{pulse}
use Rattle.device_spec.specs.PitLaws.{pulses_of}

-- ---- what holds of every counter

-- the least count that a mode takes
abbrev pub least_count : Mode → ℕ
least_count mode = if is_periodic mode then 2 else 1

-- nothing asks for a load or counts before a count was written
abbrev pub HasCount : Mode → Option ℕ → (asked started : Bool) → Type 0
HasCount mode None asked started = (asked ≡ false) × (started ≡ false)
HasCount mode (Some n) asked started = least_count mode ≤ n

-- no count is above 65,536, which is M in binary
abbrev pub most_count : ℕ
most_count = 65536

abbrev pub IsFew : Option ℕ → Type 0
IsFew None = Unit {0}
IsFew (Some n) = n ≤ most_count

pub record IsBounded (element in_use : ℕ) (count : Option ℕ) : Type 0 where
  pub of_element : element ≤ most_count
  pub of_use : in_use ≤ most_count
  pub of_count : IsFew count

-- ---- pulses

-- a pulse is quiet where it changes nothing but CE
abbrev pub IsQuiet : Bool → CounterState → Type 0
IsQuiet gate c = (element : ℕ) × (pulse gate c ≡ record c { element = element })

-- 1 where OUT rises from one level to another
abbrev pub rise : Bool → Bool → ℕ
rise before after = if after && not before then 1 else 0

-- how often OUT rises in n pulses
unfoldable pub rises_of : Bool → ℕ → CounterState → ℕ
rises_of gate zero c = 0
rises_of gate (suc n) c =
    rises_of gate n c + rise (pulses_of gate n c).out (pulse gate (pulses_of gate n c)).out

-- ---- how many quiet pulses come next

-- whether the next pulse loads, or sets OUT to 1 again
abbrev pub is_due : Mode → CounterState → Bool
is_due TerminalCount c = c.load_asked && not c.stopped
is_due OneShot c = false
is_due RateGenerator c = c.load_asked
is_due SquareWave c = c.load_asked
is_due SoftwareStrobe c = c.load_asked || not c.out
is_due HardwareStrobe c = not c.out

-- whether a pulse that is not due counts
abbrev pub counts : Mode → Bool → CounterState → Bool
counts TerminalCount gate c = not c.stopped && is_counting gate c
counts OneShot gate c = c.started
counts RateGenerator gate c = is_counting gate c
counts SquareWave gate c = is_counting gate c
counts SoftwareStrobe gate c = is_counting gate c
counts HardwareStrobe gate c = c.started

-- as many pulses as can be asked for at once
abbrev pub every_pulse : ℕ
every_pulse = 0xFFFF_FFFF

-- how often CE goes down by 2 before it is at the end of a half; an odd CE passes 2 by
abbrev pub pulses_in_half : (end element : ℕ) → ℕ
pulses_in_half end element =
    if end == 0 then element / 2 + element % 2
    else (if element % 2 == 0 && nat_lt 0 element then element / 2 - 1 else every_pulse)

-- of a counter that counts
abbrev pub counted_quietly : Mode → CounterState → ℕ
counted_quietly TerminalCount c = if c.out then every_pulse else c.element - 1
counted_quietly OneShot c = if c.out then every_pulse else c.element - 1
counted_quietly RateGenerator c = c.element - 2
counted_quietly SquareWave c = pulses_in_half (half_end c) c.element
counted_quietly SoftwareStrobe c = if c.expired then every_pulse else c.element - 1
counted_quietly HardwareStrobe c = if c.expired then every_pulse else c.element - 1

-- how many pulses come that are quiet
unfoldable pub quiet_pulses : Bool → CounterState → ℕ
quiet_pulses gate c =
    if c.trigger || is_due c.mode c then 0
    else (if counts c.mode gate c then counted_quietly c.mode c else every_pulse)

-- ---- CE after quiet pulses

-- CE less n, where 0 becomes M - 1
abbrev pub lowered : Notation → ℕ → ℕ → ℕ
lowered notation n element =
    if nat_lt element n then modulus notation - 1 - (n - element - 1) % modulus notation else element - n

abbrev pub element_after : Mode → Notation → ℕ → ℕ → ℕ
element_after SquareWave notation n element = element - 2 * n
element_after _ notation n element = lowered notation n element

unfoldable pub after_quiet : Bool → ℕ → CounterState → CounterState
after_quiet gate n c =
    if counts c.mode gate c then record c { element = element_after c.mode c.notation n c.element } else c
