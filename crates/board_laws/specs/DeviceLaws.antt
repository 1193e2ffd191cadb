-- What leaves a device alone, which lines are driven and by whom, and that pulses add up.
use Rattle.std.specs.Prelude.{ℕ, ◌≡◌, ◌+◌, ◌-◌, ◌%◌, ◌<◌, ◌≤◌, ◌⊎◌, true, false, List, ◌∷◌, slice_index_or, Some}
use Rattle.board_prelude.specs.{Pit, System, Elcr, Ata, Wires, line_of_route, Pulses, Reply, Entry, Setup, pirq}
use Rattle.board_prelude.specs.{is_hard_reset, byte_of, wire_of, irq_of, triggers_of, system_of, timer_of, clock_of}
use Rattle.board_prelude.specs.{disk_with, own_level, routes_of, levels_of, pair_of, IsNext, NamesDevice}
use Rattle.board_base.specs.declared.target.Dev.TheVariants.{Clock}

-- ---- one device

-- an entry changes only the device that its reply names. The one exception is port 61h, whose bit 0 is the
-- gate of counter 2
pub record LeavesOthers (setup : Setup) (before : List Entry) (entry : Entry) : Type 0 where
  pub timer : ¬ NamesDevice entry.reply Pit → ¬ NamesDevice entry.reply System →
      timer_of (entry ∷ before) ≡ timer_of before
  pub system : ¬ NamesDevice entry.reply System → system_of (entry ∷ before) ≡ system_of before
  pub triggers : ¬ NamesDevice entry.reply Elcr → triggers_of (entry ∷ before) ≡ triggers_of before
  pub clock : ¬ NamesDevice entry.reply Clock → clock_of (entry ∷ before) ≡ clock_of before
  pub disk : ¬ NamesDevice entry.reply Ata → (bytes : List ℕ) →
      disk_with bytes (entry ∷ before) ≡ disk_with bytes before
  pub wires : ¬ NamesDevice entry.reply Wires → (dev : ℕ) → wire_of (entry ∷ before) dev ≡ wire_of before dev
  pub lines : ¬ NamesDevice entry.reply Wires → (line : ℕ) → irq_of (entry ∷ before) line ≡ irq_of before line

abbrev pub OthersStay : Type 0
OthersStay =
    (setup : Setup) (before : List Entry) (entry : Entry) → IsNext setup before entry →
    is_hard_reset before entry.event ≡ false → LeavesOthers setup before entry

-- ---- the lines

-- the reply names a device that drives a line
abbrev pub NamesDriver : Reply → Type 0
NamesDriver reply = NamesDevice reply Pit ⊎ NamesDevice reply Clock ⊎ NamesDevice reply Ata ⊎ NamesDevice reply Wires

-- where no driver of a line was reached and no route changed, the sixteen lines stay
abbrev pub LinesStay : Type 0
LinesStay =
    (setup : Setup) (before : List Entry) (entry : Entry) → IsNext setup before entry →
    is_hard_reset before entry.event ≡ false → ¬ NamesDriver entry.reply →
    routes_of setup (entry ∷ before) ≡ routes_of setup before →
    levels_of setup (entry ∷ before) ≡ levels_of setup before

-- lines 2 and 13 are never driven
abbrev pub UndrivenLines : Type 0
UndrivenLines =
    (setup : Setup) (history : List Entry) →
    (slice_index_or (levels_of setup history) 2 false ≡ false) ×
    (slice_index_or (levels_of setup history) 13 false ≡ false)

-- INTA# of a card is at 1, and the route of its PIRQ leads to a line
pub record WireDrives (setup : Setup) (history : List Entry) (line dev : ℕ) : Type 0 where
  pub first : 2 ≤ dev
  pub last : dev ≤ 9
  pub high : wire_of history dev ≡ true
  pub routed : line_of_route (byte_of setup history (pirq ((dev - 1) % 4))) ≡ Some line

-- a card drives the line to which it is routed
abbrev pub WireReachesLine : Type 0
WireReachesLine =
    (setup : Setup) (history : List Entry) (line dev : ℕ) → line < 16 → WireDrives setup history line dev →
    slice_index_or (levels_of setup history) line false ≡ true

-- and each line at 1 is driven by its own device or by such a card
pub record SomeWire (setup : Setup) (history : List Entry) (line : ℕ) : Type 0 where
  pub dev : ℕ
  pub drives : WireDrives setup history line dev

abbrev pub LineHasDriver : Type 0
LineHasDriver =
    (setup : Setup) (history : List Entry) (line : ℕ) → line < 16 →
    slice_index_or (levels_of setup history) line false ≡ true →
    (own_level setup history (timer_of history) line ≡ true) ⊎ SomeWire setup history line

-- ---- pulses

-- n pulses and then m leave the timer and the pair as n + m at once
pub record SamePulses (setup : Setup) (before : List Entry) (first second whole : Entry) : Type 0 where
  pub timer : timer_of (second ∷ first ∷ before) ≡ timer_of (whole ∷ before)
  pub levels : levels_of setup (second ∷ first ∷ before) ≡ levels_of setup (whole ∷ before)
  pub pair : pair_of setup (second ∷ first ∷ before) ≡ pair_of setup (whole ∷ before)

abbrev pub PulsesAdd : Type 0
PulsesAdd =
    (setup : Setup) (before : List Entry) (n m : ℕ) (first second whole : Entry) →
    first.event ≡ Pulses n → second.event ≡ Pulses m → whole.event ≡ Pulses (n + m) →
    SamePulses setup before first second whole
