-- What a line says is what is read from its fields, so it says at most one thing.
use Rattle.std.proofs.Common.{ℕ, ◌≡◌, Option, Some, None, List, sym, ◌∙◌, Bool, true, [], ◌∷◌, arith, IfSome, codes}
use Rattle.std.proofs.Common.{decimal, refl}
use Rattle.script_spec.specs.Grammar.{Item, HasForm, IsDecimal, IsName, IsForm}
use Rattle.script_spec.specs.Items.{parse_line, ask, stimulus_item, parse_stimulus_item, parse_time_item, parse_by_verb}
use Rattle.script_spec.specs.Items.{parse_statement_words, is_name, parse_name, parse_phase, parse_statement}
use Rattle.script_spec.specs.Items.{parse_by_key, parse_item}
use Rattle.script_spec.specs.Laws.{OneItem}
use Rattle.script_spec.specs.Fields.{fields_of}
use Rattle.script_spec.specs.Events.{parse_given, parse_ack}
use Rattle.script_spec.proofs.Chains.{some_is, then_said, same, if_some, by_word_if, word_is}
use Rattle.script_spec.proofs.ItemBack.{line_back}
use Rattle.board_prelude.proofs.{nat_tests, option_map, Fetch, Read, Event, Time, Stimulus, stimulus_form}
use Rattle.board_prelude.proofs.{stimulus_of_word, event_applied, word_found, space, level_text}
use Rattle.std.proofs.lemmas.List.Splits.{join_with_byte-slice_split}
use Rattle.script_spec.proofs.NumberTexts.{decimal_if}
use Rattle.script_spec.proofs.Words.{given_words, applied_words, applied_is, zero_text, one_text}
use Rattle.script_spec.proofs.ItemWords.{AreFields, fields_say}
use Rattle.script_spec.proofs.EventTexts.{IsRead, read_read, write_read, in_if, out_if, look_read, time_if, number_if}
use Rattle.script_spec.proofs.EventTexts.{two_if}
use Rattle.script_spec.proofs.CardTexts.{card_if}

-- fields say an item of a form
abbrev IsSaid : (version : ℕ) → List (List ℕ) → Item → Type 0
IsSaid version fields item = IsForm version item × AreFields fields item

-- ---- statements, after the processor's number

module _ (version n : ℕ) (small : IsDecimal n) where
  asks : {X : Type 0} (make : X → Event) (words : List (List ℕ)) (found : Option X) →
      IfSome found (λ x. IsRead version words (make x)) →
      IfSome (option_map (λ x. ask n (make x)) found) (IsSaid version (decimal n ∷ words))
  asks make words found first = grind (arith, nat_tests, same)

  -- the number of a stimulus, and its level where it has one
  applied_read : (one : Stimulus) (number : ℕ) (on : Bool) (words : List (List ℕ)) →
      words ≡ given_words (stimulus_form one).has_level (decimal number) (level_text on) → IsDecimal number →
      IsSaid version (decimal n ∷ (stimulus_form one).word ∷ words) (ask n (event_applied one number on))
  applied_read one number on words is few = grind (arith, nat_tests, applied_words, applied_is, same)

  level_read : (one : Stimulus) (number level : ℕ) → (stimulus_form one).has_level ≡ true → IsDecimal number →
      IsDecimal level → IsSaid version (decimal n ∷ (stimulus_form one).word ∷ decimal number ∷ decimal level ∷ [])
      (stimulus_item n one number level)
  level_read one number level known few low = grind (arith, nat_tests, applied_read, zero_text, one_text)

  stimulus_read : (verb : List ℕ) (words : List (List ℕ)) (item : Item) → parse_stimulus_item n verb words ≡ Some item →
      IsSaid version (decimal n ∷ verb ∷ words) item
  unfolding parse_stimulus_item parse_given
  stimulus_read verb words item e =
      let one = then_said (stimulus_of_word verb) _ item e in
      let given = then_said (parse_given one.0 words) _ item one.2 in
      let two = two_if words in
      let number = number_if words in
      let verb_is = word_found verb one.0 one.1 in
      grind (arith, nat_tests, level_read, applied_read, given.1, given.2)

  verb_if : (verb : List ℕ) (words : List (List ℕ)) →
      IfSome (parse_by_verb version n verb words) (IsSaid version (decimal n ∷ verb ∷ words))
  unfolding parse_by_verb parse_time_item parse_ack
  verb_if verb words =
      let P : List ℕ → Item → Type 0 = λ v. IsSaid version (decimal n ∷ v ∷ words) in
      let said = λ (v : List ℕ). asks (λ event. event) (v ∷ words) in
      by_word_if P verb (codes "r") _ _ (said _ _ (if_some _ _ (read_read version Read words refl)))
      (by_word_if P verb (codes "f") _ _ (said _ _ (if_some _ _ (read_read version Fetch words refl)))
      (by_word_if P verb (codes "w") _ _ (said _ _ (if_some _ _ (write_read version words)))
      (by_word_if P verb (codes "in") _ _ (said _ _ (in_if version words))
      (by_word_if P verb (codes "out") _ _ (said _ _ (out_if version words))
      (by_word_if P verb (codes "look") _ _ (said _ _ (if_some _ _ (look_read version words)))
      (by_word_if P verb (codes "ack") _ _ (said (codes "ack") _ (grind (arith, nat_tests)))
      (by_word_if P verb (codes "moment") _ _ (asks Time (codes "moment" ∷ words) _ (time_if version words))
      (if_some _ _ (stimulus_read verb words)))))))))

statement_if : (version : ℕ) (actor : List ℕ) (words : List (List ℕ)) →
    IfSome (parse_statement version actor words) (IsSaid version (actor ∷ words))
unfolding parse_statement parse_statement_words
statement_if version actor [] = grind (arith, nat_tests)
statement_if version actor (verb ∷ words) = grind (arith, decimal_if actor, verb_if version)

-- ---- all lines

name_if : (words : List (List ℕ)) → IfSome (parse_name words) (λ name. (words ≡ name ∷ []) × IsName name)
unfolding parse_name is_name
name_if words = grind (arith, nat_tests)

fields_if : (version : ℕ) (fields : List (List ℕ)) → IfSome (parse_item version fields) (IsSaid version fields)
unfolding parse_item parse_by_key parse_phase
fields_if version [] = tt
fields_if version (key ∷ words) =
    let number = number_if words in
    let name = name_if words in
    let card = card_if version words in
    let statement = statement_if version key words in
    grind (arith, word_is key)

-- what is read from a line's fields, the line says
pub read_says : (version : ℕ) (line : List ℕ) (item : Item) → parse_line version line ≡ Some item →
    HasForm version line item
read_says version line item e =
    let said = rw e at (fields_if version (fields_of line)) in
    let joined = fields_say (fields_of line) item said.1 in
    record { form = said.0; says = rw (join_with_byte-slice_split space line) at joined }

-- ---- so it says at most one thing

pub one_item : OneItem
one_item version line item other has others =
    some_is item other (sym (line_back version line item has) ∙ line_back version line other others)

pub nothing_said : (version : ℕ) (line : List ℕ) → parse_line version line ≡ None → (item : Item)
    → ¬ HasForm version line item
nothing_said version line e item has = grind (arith, nat_tests, line_back)
