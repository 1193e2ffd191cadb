-- The cards in a list by their device numbers.
use Rattle.std.proofs.Common.{◌≡◌, ℕ, Bor, get_or, List, [], ◌∷◌, length, ◌++◌, ◌+◌, Option, Some, None, refl, arith}
use Rattle.std.proofs.Common.{◌==◌, All, find, option_map, nat_lt, is_some, slice_get}
use Rattle.std.specs.Option.{IfSome}
use Rattle.board_prelude.proofs.{position, nat_tests, All-nil, All-cons, All-append, All-head, All-tail, length-append}
use Rattle.board_prelude.proofs.{map-append, FittedCard, Setup, card_at}
use Rattle.std.proofs.lemmas.List.Folds.{find_at}
use Rattle.std.proofs.lemmas.Option.{slice_get_past, slice_get-get_or}
use Rattle.pci_bars.specs.declared.regs.CardRegs.{CardRegs}
use Rattle.pci_bars.specs.Cards.{CardBytes, IsCardAdded, AreReset, IsReset, cards_of}

-- the card at a device number, among the cards' registers and among the cards
pub find-cards : (cards : List CardBytes) (dev : ℕ) → option_map (λ card. card.card)
    (find (λ card. card.card.dev == dev) cards) ≡ find (λ card. card.dev == dev) (cards_of cards)
find-cards [] dev = refl
find-cards (card ∷ later) dev = let rest = find-cards later dev in grind arith

pub card_is :
    (setup : Setup) (cards : List CardBytes) (dev : ℕ) (found : Option CardBytes) → setup.cards ≡ cards_of cards →
    found ≡ find (λ card. card.card.dev == dev) cards → option_map (λ card. card.card) found ≡ card_at setup dev
card_is setup cards dev found same is = rw (is, same) (find-cards cards dev)

-- what holds of each card holds of the one that is found, and it has the device number
pub found : (P : CardBytes → Type 0) (cards : List CardBytes) (dev : ℕ) (card : CardBytes) → All P cards →
    find (λ card. card.card.dev == dev) cards ≡ Some card → P card × (card.card.dev ≡ dev)
found P [] dev card each is = absurd (cc)
found P (first ∷ later) dev card each is =
    let here = All-head P first later each in
    let rest = found P later dev card (All-tail P first later each) in
    grind (arith, nat_tests, here, rest)

-- ---- by the place in the list

pub at_position : (cards : List CardBytes) (dev i : ℕ) → Some i ≡ position (λ card. card.card.dev == dev) cards →
    slice_get cards i ≡ find (λ card. card.card.dev == dev) cards
at_position cards dev i is = rw (find_at (λ card. card.card.dev == dev) cards) (grind (arith, nat_tests))

pub no_position : (cards : List CardBytes) (dev : ℕ) → None ≡ position (λ card. card.card.dev == dev) cards →
    None ≡ find (λ card. card.card.dev == dev) cards
no_position cards dev is = grind (arith, nat_tests, slice_get_past, find_at)

-- the card at a place of the list
pub at_index :
    (cards : List CardBytes) (i : ℕ) (lent : Option (Bor CardRegs)) → is_some lent ≡ nat_lt i (length cards) →
    IfSome lent (λ card. card.now ≡ get_or cards i card.now) → option_map (λ card. card.now) lent ≡ slice_get cards i
at_index cards i lent within is =
    let past = slice_get_past cards i in
    let here = slice_get-get_or cards i in
    grind (arith, nat_tests)

pub map_twice : (lent : Option (Bor CardRegs)) →
    option_map (λ card. card.now.card) lent
    ≡ option_map (λ (card : CardBytes). card.card) (option_map (λ card. card.now) lent)
map_twice lent = grind arith

-- ---- one card more

module _ (old new : List CardBytes) (spec : FittedCard) (is : IsCardAdded old new spec) where
  pub added-cards : cards_of new ≡ cards_of old ++ spec ∷ []
  added-cards = rw (is.added, map-append (λ card. card.card) old (is.regs ∷ []), is.card) refl

  pub added-reset : AreReset old → AreReset new
  added-reset each =
      rw is.added (All-append IsReset old (is.regs ∷ []) each (All-cons IsReset is.regs [] is.reset (All-nil IsReset)))

  pub added-count : length new ≡ length old + 1
  added-count = rw is.added (length-append old (is.regs ∷ []))
