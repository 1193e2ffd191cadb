-- What the world outside does to the board where one number says it, and for some a level: one line a stimulus.
use Rattle.std.specs.Prelude.{ℕ, ◌==◌, Bool, true, false, List, [], ◌∷◌, Option, Some, None, codes, find, bytes_eq}
use Rattle.board_base.specs.declared.target.Dev.{Dev}
use Rattle.board_base.specs.declared.target.Dev.TheVariants.{Pit, Ata, Wires}
use Rattle.board_spec.specs.declared.event.Event.{Event}
use Rattle.board_spec.specs.declared.event.Event.TheVariants as events
use Rattle.board_spec.specs.declared.stimulus.Applied.{Applied}
use Rattle.board_spec.specs.declared.stimulus.Stimulus.{Stimulus}
use Rattle.board_spec.specs.declared.stimulus.Stimulus.TheVariants.{Pulses, Wire, Line, BadSector}
use Rattle.board_spec.specs.Bits.{is_within}
use Rattle.board_spec.specs.InRange.{is_free_line}

-- one line: its word in scripts and logs, its number in images and in records for C, whether a level follows the number
-- that it gives, what answers it, and the numbers that a script can give
pub record Form : Type 0 where
  pub word : List ℕ
  pub code : ℕ
  pub has_level : Bool
  pub answers : Dev
  pub numbers : ℕ → Bool

abbrev pub form : List ℕ → ℕ → Bool → Dev → (ℕ → Bool) → Form
form word code has_level answers numbers =
    record { word = word; code = code; has_level = has_level; answers = answers; numbers = numbers }

-- the most pulses of one statement, and the last sector of the largest disk
abbrev pub most_pulses_at_once : ℕ
most_pulses_at_once = 1_000_000

abbrev pub last_sector : ℕ
last_sector = 0xFFFF

-- the table
abbrev pub stimulus_form : Stimulus → Form
stimulus_form Pulses = form (codes "pulse") 5 false Pit (is_within 1 most_pulses_at_once)
stimulus_form Wire = form (codes "wire") 7 true Wires (is_within 2 9)
stimulus_form Line = form (codes "irq") 8 true Wires is_free_line
stimulus_form BadSector = form (codes "bad") 9 false Ata (is_within 0 last_sector)

-- all of them
abbrev pub stimuli : List Stimulus
stimuli = Pulses ∷ Wire ∷ Line ∷ BadSector ∷ []

-- the one with a word, and the one with a number
abbrev pub stimulus_of_word : List ℕ → Option Stimulus
stimulus_of_word word = find (λ one. bytes_eq word (stimulus_form one).word) stimuli

abbrev pub stimulus_of_code : ℕ → Option Stimulus
stimulus_of_code code = find (λ one. code == (stimulus_form one).code) stimuli

-- a stimulus with the number and the level that it gives
abbrev pub applied : Stimulus → ℕ → Bool → Applied
applied stimulus number on = record { stimulus = stimulus; number = number; on = on }

-- the event that it is, and what an event applies
abbrev pub event_applied : Stimulus → (number : ℕ) → (on : Bool) → Event
event_applied Pulses count on = events.Pulses count
event_applied Wire dev on = events.Wire dev on
event_applied Line irq on = events.Line irq on
event_applied BadSector sector on = events.BadSector sector

abbrev pub applied_by : Event → Option Applied
applied_by (events.Pulses count) = Some (applied Pulses count false)
applied_by (events.Wire dev on) = Some (applied Wire dev on)
applied_by (events.Line irq on) = Some (applied Line irq on)
applied_by (events.BadSector sector) = Some (applied BadSector sector false)
applied_by _ = None
