-- What a line asks: a statement of a script, in range.
use Rattle.std.specs.Prelude.{ℕ, ◌≡◌, true, List}
use Rattle.board_prelude.specs.{Event}
use Rattle.script_spec.specs.Grammar.{HasForm}
use Rattle.script_spec.specs.Reasons.{is_event_placed}
use Rattle.script_spec.specs.WellFormed.{IsNamed}
use Rattle.script_spec.specs.Items.{ask}
use Rattle.scripts.specs.declared.item.Asked.{Asked}
use Rattle.scripts.specs.Items.{asked_said}

-- an event of a well-formed entry, whatever its digits are
pub record IsPlacedEvent (event : Event) : Type 0 where
  pub named : IsNamed event
  pub placed : is_event_placed event ≡ true

-- what was read asks this
pub record IsEventOf (asked : Asked) (event : Event) : Type 0 where
  pub said : (actor : ℕ) → asked_said actor asked ≡ ask actor event
  pub fits : IsPlacedEvent event

-- `S STATEMENT` has a form, which asks this
pub record IsAsked (version : ℕ) (text : List ℕ) (seq : ℕ) (event : Event) : Type 0 where
  pub has : HasForm version text (ask seq event)
  pub fits : IsPlacedEvent event
