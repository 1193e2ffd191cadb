-- What the lines of the setup add to what is kept.
use Rattle.board_prelude.proofs.{nat_tests, list_any, true≢false, sum_by-cons, or-false, FittedCard, memory_size}
use Rattle.std.proofs.Common.{◌≡◌, ℕ, ◌+◌, false, Some, List, [], ◌∷◌, Vec, Global, sum_by, refl, arith, nat_lt}
use Rattle.script_spec.specs.Grammar.{Item, SetCpus, FitCard}
use Rattle.script_spec.specs.Reasons.{is_cpus, is_cpus_above, cards_of}
use Rattle.script_spec.proofs.GoodItems.{no_reason, within_limits}
use Rattle.script_spec.proofs.ReadingExists.{put, card_put, cards_rise}
use Rattle.scripts.specs.declared.reading.Reading.{Reading}
use Rattle.scripts.proofs.Reasons.{memory_cons}
use Rattle.scripts.specs.Reading.{Takes}

-- ---- processors

no_cpus : (items : List Item) (actor : ℕ) → list_any is_cpus items ≡ false →
    list_any (is_cpus_above actor) items ≡ false
no_cpus [] actor none = refl
no_cpus (SetCpus count ∷ before) actor none = absurd (true≢false none)
no_cpus (item ∷ before) actor none = no_cpus before actor none

cpus_above : (items : List Item) (count : ℕ) → list_any is_cpus items ≡ false → (actor : ℕ) →
    list_any (is_cpus_above actor) (SetCpus count ∷ items) ≡ nat_lt actor count
cpus_above items count none actor = rw (no_cpus items actor none) (or-false (nat_lt actor count))

pub cpus_taken : (old : Reading) (count : ℕ) → Takes old (SetCpus count) (record old { cpus = Some count })
cpus_taken old count items is least =
    let none = no_reason items (SetCpus count) least in
    grind (arith, nat_tests, sum_by-cons, cpus_above items count none.first)

-- ---- cards

pub card_taken :
    (old : Reading) (card : FittedCard) (cards : Vec FittedCard Global) (memory : ℕ) →
    cards.items ≡ put card old.cards.items → memory ≡ sum_by memory_size card.bases →
    Takes old (FitCard card) (record old { cards = cards; memory = old.memory + memory })
card_taken old card cards memory at_place decoded items is least =
    let none = no_reason items (FitCard card) least in
    let limits = within_limits (FitCard card ∷ items) none.limits in
    let same = card_put items card old.cards.items is.cards in
    let rises = cards_rise items card old.cards.items is.cards is.rises none.first in
    grind (arith, nat_tests, sum_by-cons, memory_cons card (cards_of items))
