-- What holds of items that were read.
use Rattle.board_prelude.proofs.{nat_tests, option_map, find, not-false, none-some, most_statements, most_phases}
use Rattle.board_prelude.proofs.{most_pulses, most_card_memory, memory_of_cards}
use Rattle.std.proofs.Common.{arith, ℕ, ◌≡◌, ◌≤◌, Bool, true, false, ◌&&◌, Some, None, List, [], ◌∷◌, length, filter}
use Rattle.std.proofs.Common.{sum_by}
use Rattle.script_spec.specs.Grammar.{Item, IsForm}
use Rattle.script_spec.specs.Reasons.{Reason, reasons, is_phase, is_misplaced, is_repeated, lacks_setup, is_in_range}
use Rattle.script_spec.specs.Reasons.{is_placed, is_there, passes_limits, least_reason, is_statement, pulses_of}
use Rattle.script_spec.specs.Reasons.{cards_of}
use Rattle.script_spec.specs.ScriptText.{AreRead}

-- there is no reason to refuse an item after these
pub record NoReason (before : List Item) (item : Item) : Type 0 where
  pub place : is_misplaced before item ≡ false
  pub first : is_repeated before item ≡ false
  pub begun : (is_phase item && lacks_setup before) ≡ false
  pub range : is_in_range item ≡ true
  pub aligned : is_placed item ≡ true
  pub there : is_there before item ≡ true
  pub limits : passes_limits (item ∷ before) ≡ false

abbrev NoneHold : List Reason → Type 0
NoneHold [] = Unit {0}
NoneHold (r ∷ later) = (r.holds ≡ false) × NoneHold later

none_holds : (reasons : List Reason) → option_map (λ r. r.why) (find (λ r. r.holds) reasons) ≡ None → NoneHold reasons
none_holds [] none = tt
none_holds (r ∷ later) none = grind (arith, nat_tests, none_holds later)

pub no_reason : (before : List Item) (item : Item) → least_reason before item ≡ None → NoReason before item
unfolding least_reason
no_reason before item none =
    let fails = none_holds (reasons before item) none in grind (arith, nat_tests, not-false)

-- no limit is passed by these
pub record IsWithinLimits (items : List Item) : Type 0 where
  pub statements : length (filter is_statement items) ≤ most_statements
  pub phases : length (filter is_phase items) ≤ most_phases
  pub pulses : sum_by pulses_of items ≤ most_pulses
  pub memory : memory_of_cards (cards_of items) ≤ most_card_memory

pub within_limits : (items : List Item) → passes_limits items ≡ false → IsWithinLimits items
within_limits items none = grind (arith, nat_tests)

-- each item has a form, and there was no reason to refuse it
abbrev pub AreGood : (version : ℕ) → List Item → Type 0
AreGood version [] = Unit {0}
AreGood version (item ∷ before) = IsForm version item × NoReason before item × AreGood version before

pub read_good : (version : ℕ) (lines : List (List ℕ)) (before items : List Item) → AreRead version before lines items →
    AreGood version before → AreGood version items
read_good version [] before items read good = rw read good
read_good version (line ∷ later) before items read good =
    grind (arith, nat_tests, no_reason, read_good version later)

-- what a search finds is good
pub found_good : (version : ℕ) (items : List Item) (test : Item → Bool) (item : Item) → AreGood version items →
    find test items ≡ Some item → IsForm version item × (is_in_range item ≡ true)
found_good version [] test item good found = absurd (none-some item found)
found_good version (first ∷ before) test item good found =
    grind (arith, nat_tests, found_good version before test item good.2)
