-- Each line of a form is read as what it says.
use Rattle.std.proofs.Common.{◌≡◌, ℕ, false, Some, List, ◌∷◌, inl, inr, arith, decimal, bytes_eq}
use Rattle.board_prelude.proofs.{nat_tests, AllDigits, cases_Bool, Stimulus}
use Rattle.script_spec.specs.Grammar.{Item, Ask, AskLevel, IsDecimal, IsForm, IsLevelForm, HasForm}
use Rattle.script_spec.specs.Fields.{fields_of}
use Rattle.script_spec.specs.Events.{parse_given, parse_number, parse_two_numbers}
use Rattle.script_spec.specs.Items.{parse_statement_words, parse_statement, parse_by_key, parse_item, is_name}
use Rattle.script_spec.specs.Items.{parse_name, parse_phase, parse_by_verb, parse_stimulus_item}
use Rattle.script_spec.proofs.Digits.{digits_of_decimal}
use Rattle.script_spec.proofs.Chains.{word_is}
use Rattle.script_spec.proofs.NumberTexts.{decimal_back}
use Rattle.script_spec.proofs.ItemWords.{item_words, AreFields, fields_said}
use Rattle.script_spec.proofs.EventTexts.{event_back, number_is}
use Rattle.script_spec.proofs.CardTexts.{fitted_back}

-- ---- statements

-- a number is no word
no_word : (n : ℕ) (word : List ℕ) → IsDecimal n → ¬ AllDigits 10 word → bytes_eq (decimal n) word ≡ false
no_word n word small letters = elim (cases_Bool (bytes_eq (decimal n) word)) [
  | inl same ↦ absurd (letters (rw (word_is (decimal n) word same) at (digits_of_decimal n small)))
  | inr other ↦ other
]

-- a line that begins with a number is a statement's
pub number_first : (version n : ℕ) (words : List (List ℕ)) (item : Item) → IsDecimal n →
    parse_statement_words version n words ≡ Some item → parse_item version (decimal n ∷ words) ≡ Some item
unfolding parse_item parse_by_key parse_statement
number_first version n words item small read = grind (arith, nat_tests, no_word, decimal_back)

-- a level that is neither 0 nor 1
level_back : (version n : ℕ) (one : Stimulus) (number level : ℕ) → IsLevelForm n one number level
    → parse_item version (item_words (AskLevel n one number level)) ≡ Some (AskLevel n one number level)
unfolding parse_statement_words parse_by_verb parse_stimulus_item parse_given parse_two_numbers
level_back version n one number level form =
    number_first _ n _ _ form.who (grind (arith, nat_tests, decimal_back, form.what, form.which, form.few, form.high))

-- ---- all lines

item_back : (version : ℕ) (fields : List (List ℕ)) (item : Item) → IsForm version item → AreFields fields item
    → parse_item version fields ≡ Some item
unfolding parse_item parse_by_key parse_number parse_name parse_phase is_name
item_back version fields (AskLevel actor one number level) form are =
    rw are (level_back version actor one number level form)
item_back version (key ∷ words) (Ask statement) form are =
    rw (number_is statement.actor key form.0 are.0)
    (number_first version statement.actor words (Ask statement) form.0
    (event_back version statement.actor statement.event words form.1 are.1))
item_back version fields item form are = grind (arith, nat_tests, decimal_back, fitted_back)

-- a line that has a form is read as the item that it says
pub line_back : (version : ℕ) (line : List ℕ) (item : Item) → HasForm version line item
    → parse_item version (fields_of line) ≡ Some item
line_back version line item has = item_back _ _ _ has.form (fields_said _ _ _ has.form has.says)
