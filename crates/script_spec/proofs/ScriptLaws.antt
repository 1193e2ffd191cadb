-- A text says at most one script.
use Rattle.board_prelude.proofs.{nat_tests, IsPermutation, All-head, All-tail, All-nil, All-cons, All-permutation}
use Rattle.board_prelude.proofs.{IsPermutation-sym, FittedCard, Rises}
use Rattle.board_prelude.specs.{Statement}
use Rattle.std.proofs.Common.{ℕ, ◌≡◌, ◌<◌, ◌⊎◌, Option, Some, List, [], ◌∷◌, ◌++◌, map, All, refl, sym, ap, ◌∙◌, inl}
use Rattle.std.proofs.Common.{inr, arith, drop}
use Rattle.script_spec.specs.Grammar.{Item, SetCpus, SetMemory, SetRom, Ask}
use Rattle.script_spec.specs.Reasons.{cards_of}
use Rattle.script_spec.specs.ScriptText.{Script, phase_items, IsSaidBy}
use Rattle.script_spec.specs.Laws.{OneScript}
use Rattle.script_spec.proofs.Decision.{text_so}

-- ---- cards in rising order

-- what holds of each card of a list holds of each card of another
abbrev Covers : List FittedCard → List FittedCard → Type 1
Covers left right = (P : FittedCard → Type 0) → All P left → All P right

-- a card is this one, or has a higher device
abbrev IsFrom : FittedCard → FittedCard → Type 0
IsFrom x card = (card ≡ x) ⊎ (x.dev < card.dev)

first_lowest : (x : FittedCard) (xs : List FittedCard) → Rises (x ∷ xs) → All (IsFrom x) (x ∷ xs)
first_lowest x xs rises = All-cons (IsFrom x) x xs (inl refl) (λ k d inside. inr (rises.0 k d inside))

later_covered : (x y : FittedCard) (xs ys : List FittedCard) → x ≡ y → Rises (y ∷ ys) → Covers (x ∷ xs) (y ∷ ys) →
    Covers xs ys
later_covered x y xs ys same rises covers P all k d inside =
    let Above : FittedCard → Type 0 = λ card. x.dev < card.dev → P card in
    let above = covers Above (All-cons Above x xs (λ less. absurd (omega arith)) (λ j e within less. all j e within)) in
    All-tail Above y ys above k d inside (rw same (rises.0 k d inside))

-- two lists that rise and have the same cards are one
rising_same : (left right : List FittedCard) → Rises left → Rises right → Covers left right → Covers right left →
    left ≡ right
rising_same [] [] one two there back = refl
rising_same [] (y ∷ ys) one two there back = absurd (there (λ card. ⊥) (All-nil (λ card. ⊥)) 0 y (omega arith))
rising_same (x ∷ xs) [] one two there back = absurd (back (λ card. ⊥) (All-nil (λ card. ⊥)) 0 x (omega arith))
rising_same (x ∷ xs) (y ∷ ys) one two there back =
    let up = All-head (IsFrom x) y ys (there (IsFrom x) (first_lowest x xs one)) in
    let down = All-head (IsFrom y) x xs (back (IsFrom y) (first_lowest y ys two)) in
    let same : x ≡ y = grind arith in
    let later = rising_same xs ys one.1 two.1 (later_covered x y xs ys same two there)
    (later_covered y x ys xs (sym same) one back) in
    λ i. same i ∷ later i

one_order : (cards left right : List FittedCard) → IsPermutation cards left → IsPermutation cards right →
    Rises left → Rises right → left ≡ right
one_order cards left right one two rises others =
    rising_same left right rises others
    (λ P all. All-permutation P cards right two (All-permutation P left cards (IsPermutation-sym cards left one) all))
    (λ P all. All-permutation P cards left one (All-permutation P right cards (IsPermutation-sym cards right two) all))

-- ---- phases

first_phase : (phase other : List Statement) (later others : List (List Statement)) →
    map Ask phase ++ phase_items later ≡ map Ask other ++ phase_items others →
    (phase ≡ other) × (phase_items later ≡ phase_items others)
first_phase [] [] later others e = grind (arith, nat_tests)
first_phase (asked ∷ phase) (said ∷ other) later others e =
    grind (arith, nat_tests, first_phase phase other later others)
first_phase [] (said ∷ other) [] others e = grind (arith, nat_tests)
first_phase [] (said ∷ other) (next ∷ later) others e = grind (arith, nat_tests)
first_phase (asked ∷ phase) [] later [] e = grind (arith, nat_tests)
first_phase (asked ∷ phase) [] later (next ∷ others) e = grind (arith, nat_tests)

one_cutting : (left right : List (List Statement)) → phase_items left ≡ phase_items right → left ≡ right
one_cutting [] [] e = refl
one_cutting (phase ∷ later) (other ∷ others) e =
    let first = first_phase phase other later others (ap (λ items. drop 1 items) e) in
    grind (arith, one_cutting later others)
one_cutting _ _ e = absurd cc

-- ---- scripts

abbrev pub count_of : Option Item → ℕ
count_of (Some (SetCpus count)) = count
count_of (Some (SetMemory mib)) = mib
count_of _ = 0

abbrev pub name_of : Option Item → List ℕ
name_of (Some (SetRom name)) = name
name_of _ = []

one_meaning : (items : List Item) (left right : Script) → left.version ≡ right.version →
    IsSaidBy left items → IsSaidBy right items → left ≡ right
one_meaning items left right version one two =
    let cards = one_order (cards_of items) left.cards right.cards one.cards two.cards one.rises two.rises in
    let phases = one_cutting left.phases right.phases (sym one.phases ∙ two.phases) in
    grind (arith, nat_tests)

pub one_script : OneScript
one_script bytes script other one two =
    let judged = sym (text_so bytes script one) ∙ text_so bytes other two in
    let version : script.version ≡ other.version = grind arith in
    let items : one.items ≡ two.items = grind arith in
    one_meaning two.items script other version (rw items at one.said) two.said
