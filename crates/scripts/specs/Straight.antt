-- A statement that is read straight from the bytes of its line.
use Rattle.std.specs.Prelude.{ℕ, ◌≡◌, List, Some}
use Rattle.board_prelude.specs.{Event}
use Rattle.script_spec.specs.Fields.{fields_of}
use Rattle.script_spec.specs.Items.{ask, parse_statement_words}

-- between two fields one space stands
abbrev pub space : ℕ
space = 0x20

-- these words, after the processor's number, ask for the event
abbrev pub Asks : (version : ℕ) → (words : List ℕ) → Event → Type 0
Asks version words event = (actor : ℕ) → parse_statement_words version actor (fields_of words) ≡ Some (ask actor event)
