-- The last statement, phase and pulse that a script may ask for, and the first too many. The numbers are those of the
-- README and of the formats, and stand here once more on purpose. And the areas that a look of a log can name.
use Rattle.std.specs.Prelude.{ℕ, ◌≡◌, List, [], ◌∷◌, ◌++◌, replicate, Option, Some, None, codes}
use Rattle.board_prelude.specs.{Event, Ack, Pulses}
use Rattle.board_base.specs.declared.target.Area.TheVariants.{Dram, Shadow, Card}
use Rattle.script_spec.specs.Grammar.{Item, SetCpus, SetMemory, SetRom, BeginPhase, Ask}
use Rattle.script_spec.specs.Reasons.{least_reason}
use Rattle.script_spec.specs.WellFormed.{FitsArea}

-- a setup of one processor and its first phase, the newest first
abbrev pub begun : List Item
begun = BeginPhase ∷ SetRom (codes "r64") ∷ SetMemory 8 ∷ SetCpus 1 ∷ []

abbrev pub asks : Event → Item
asks event = Ask (record { actor = 0; event = event })

abbrev pub after_so_many : (count : ℕ) → Item → List Item
after_so_many count item = replicate count item ++ begun

-- why one statement more is refused after so many
unfoldable pub after_statements : (count : ℕ) → Option ℕ
after_statements count = least_reason (after_so_many count (asks Ack)) (asks Ack)

-- why one phase more is refused after so many of a script, the first of which has begun
unfoldable pub after_phases : (count : ℕ) → Option ℕ
after_phases count = least_reason (after_so_many count BeginPhase) BeginPhase

-- why these pulses are refused after so many millions
unfoldable pub after_millions : (count pulses : ℕ) → Option ℕ
after_millions count pulses = least_reason (after_so_many count (asks (Pulses 1_000_000))) (asks (Pulses pulses))

-- 250,000 statements, 1,000 phases and 100,000,000 pulses
pub record AmountBorders : Type 0 where
  pub last_statement : after_statements 249_999 ≡ None
  pub statement_more : after_statements 250_000 ≡ Some 10
  pub last_phase : after_phases 998 ≡ None
  pub phase_more : after_phases 999 ≡ Some 10
  pub last_pulse : after_millions 99 1_000_000 ≡ None
  pub pulse_more : after_millions 100 1 ≡ Some 10

-- rows, cards and bases of one decimal digit
pub record AreaBorders : Type 0 where
  pub rows : FitsArea (Dram 9) × FitsArea (Shadow 9)
  pub row_10 : ¬ FitsArea (Dram 10)
  pub shadow_10 : ¬ FitsArea (Shadow 10)
  pub card : FitsArea (Card 9 9)
  pub card_10 : ¬ FitsArea (Card 10 0)
  pub base_10 : ¬ FitsArea (Card 0 10)
