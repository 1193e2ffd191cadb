-- The cards in a list by their device numbers, and the bytes of their registers.
use Rattle.board_prelude.proofs.{get_or-set_at, nat_tests, position, All-head, All-tail, get_or-map, length-map}
use Rattle.board_prelude.proofs.{take_all, take_more, Setup, FittedCard, IsCard, IsCardList, Rises, card_at, Reg}
use Rattle.board_prelude.proofs.{reset_byte, Bytes, card_register}
use Rattle.std.proofs.Common.{◌≡◌, ◌≢◌, ℕ, zero, suc, ◌+◌, ◌<◌, ◌≤◌, ◌⊎◌, inl, inr, false, List, [], ◌∷◌, ◌++◌, take}
use Rattle.std.proofs.Common.{length, get_or, set, Some, None, refl, sym, ◌∙◌, ap, subst, arith, get_or-set_other}
use Rattle.std.proofs.Common.{length-set, ◌==◌, All, is_some, find}
use Rattle.std.specs.List.{position_from}
use Rattle.std.proofs.Math.Seq.{map-set_same}
use Rattle.std.proofs.lemmas.List.Elements.{All-map}
use Rattle.std.proofs.lemmas.List.Quantifiers.{position-Some}
use Rattle.std.proofs.lemmas.Iterator.Adapters.{position_from-zero}
use Rattle.pci_bars.specs.Cards.{CardBytes, DecodesAs, IsCardOf, AreCards, AreCardsOf, AreDecoded, cards_of, AreFitted}
use Rattle.pci_bars.specs.Cards.{AreReset}
use Rattle.addr_decode.specs.MapRegs.{stored}
use Rattle.pci_bars.proofs.CardLemmas.{card-apart}

-- ---- what holds of a card and the bytes of its registers

-- it holds with any bytes that are the same there, and a byte past offset FFh is none of them
pub record IsOfCard (setup : Setup) (Is : Bytes → CardBytes → Type 0) : Type 0 where
  pub fitted : (bytes : Bytes) (card : CardBytes) → Is bytes card → card_at setup card.card.dev ≡ Some card.card
  pub agrees : (bytes bytes' : Bytes) (card : CardBytes) →
      ((off : ℕ) → bytes' (card_register card.card.dev off) ≡ bytes (card_register card.card.dev off)) →
      Is bytes card → Is bytes' card
  pub beyond : (bytes : Bytes) (card : CardBytes) (off written : ℕ) → IsCard card.card → written < 256 → 256 ≤ off →
      Is bytes card → Is (stored setup bytes (card_register card.card.dev off) written) card

-- so it is of those on which the address map depends, and of all
pub of_decoded : (setup : Setup) → IsOfCard setup (DecodesAs setup)
of_decoded setup = grind (arith, nat_tests)

pub of_registers : (setup : Setup) → IsOfCard setup (IsCardOf setup)
of_registers setup = record {
  fitted = λ bytes card is. is.decodes.fitted;
  agrees = λ bytes bytes' card same is. record {
    decodes = (of_decoded setup).agrees bytes bytes' card same is.decodes;
    line = same 0x3C ∙ is.line;
    no_rom = is.no_rom;
    fixed = λ off fixed. same off ∙ is.fixed off fixed;
  };
  beyond = λ bytes card off written fit below past.
      card-apart setup bytes card off written fit below
      (record { command = λ e. omega arith; bases = inr (omega arith); rom = inr (omega arith) }) (λ e. omega arith);
}

-- of a board's registers those of its cards are decoded
pub cards_decoded : (setup : Setup) (bytes : Bytes) (cards : List CardBytes) → AreCardsOf setup bytes cards →
    AreDecoded setup bytes cards
cards_decoded setup bytes cards are = (are.0, λ k d within. (are.1 k d within).decodes)

-- ---- the cards and their registers

abbrev card_of : CardBytes → FittedCard
card_of card = card.card

-- what holds of each card of the board
each_card :
    (P : FittedCard → Type 0) (cards : List CardBytes) → All P (cards_of cards) → All (λ card. P card.card) cards
each_card P cards all k d within =
    subst P (get_or-map card_of cards k d d.card within) (all k d.card (rw (length-map cards card_of) within))

rises_apart : (cards : List CardBytes) → Rises (cards_of cards) → (i k : ℕ) (d : CardBytes) → i < k → k < length cards →
    (get_or cards i d).card.dev < (get_or cards k d).card.dev
rises_apart (card ∷ later) rises zero (suc k) d below within =
    each_card (λ other. card.card.dev < other.dev) later rises.0 k d (omega arith)
rises_apart (card ∷ later) rises (suc i) (suc k) d below within =
    rises_apart later rises.1 i k d (omega arith) (omega arith)
rises_apart _ rises i k d below within = absurd (omega arith)

found_from : (cards : List CardBytes) (dev first : ℕ) →
    is_some (find (λ card. card.dev == dev) (cards_of cards))
    ≡ is_some (position_from (λ card. card.card.dev == dev) first cards)
found_from [] dev first = refl
found_from (card ∷ later) dev first = let rest = found_from later dev (first + 1) in grind arith

pub fitted_is : (setup : Setup) (cards : List CardBytes) (dev : ℕ) → setup.cards ≡ cards_of cards →
    is_some (position (λ card. card.card.dev == dev) cards) ≡ is_some (card_at setup dev)
fitted_is setup cards dev same =
    rw (same, position_from-zero (λ card. card.card.dev == dev) cards) (sym (found_from cards dev 0))

-- the cards are still these cards
pub card_kept : (cards : List CardBytes) (i : ℕ) (old new : CardBytes) → old ≡ get_or cards i old →
    new.card ≡ old.card → cards_of (set cards i new) ≡ cards_of cards
card_kept cards i old new is_old same_card = map-set_same card_of cards i new old (same_card ∙ ap card_of is_old)

module _ {setup : Setup} {Is : Bytes → CardBytes → Type 0} (own : IsOfCard setup Is) (bytes : Bytes) where
  -- a byte of another device, or of a function other than 0, is none of a card
  card_beside : (at : Reg) (written : ℕ) (card : CardBytes) → (at.dev ≢ card.card.dev) ⊎ (at.fun ≢ 0) →
      Is bytes card → Is (stored setup bytes at written) card
  card_beside at written card other is = grind (arith, nat_tests)

  -- nor is one past offset FFh
  card_beyond : (at : Reg) (written : ℕ) (card : CardBytes) → IsCard card.card → written < 256 → 256 ≤ at.off →
      Is bytes card → Is (stored setup bytes at written) card
  card_beyond at written card fit below past is =
      let beyond = own.beyond bytes card at.off written fit below past is in
      let beside = card_beside at written card in
      grind (arith, nat_tests)

module _ {setup : Setup} {Is : Bytes → CardBytes → Type 0} (own : IsOfCard setup Is) (bytes : Bytes)
    (cards : List CardBytes) (are : (setup.cards ≡ cards_of cards) × All (Is bytes) cards) where
  pub cards_agree : (bytes' : Bytes) → AreCards cards →
      ((dev off : ℕ) → 2 ≤ dev → bytes' (card_register dev off) ≡ bytes (card_register dev off)) →
      (setup.cards ≡ cards_of cards) × All (Is bytes') cards
  cards_agree bytes' each same = grind (arith, nat_tests)

  -- a byte of a bridge, of a function other than 0, or past offset FFh is none of the cards
  pub cards_stay : (at : Reg) (written : ℕ) → AreCards cards → written < 256 →
      (at.dev < 2) ⊎ (at.fun ≢ 0) ⊎ (256 ≤ at.off) →
      (setup.cards ≡ cards_of cards) × All (Is (stored setup bytes at written)) cards
  cards_stay at written each below outside = (
    are.0,
    λ k d within.
        let fit = each k d within in
        let above = fit.first in
        elim outside [
          | inl low ↦ card_beside own bytes at written (get_or cards k d) (inl (λ e. omega arith)) (are.1 k d within)
          | inr (inl fun) ↦ card_beside own bytes at written (get_or cards k d) (inr fun) (are.1 k d within)
          | inr (inr past) ↦ card_beyond own bytes at written (get_or cards k d) fit below past (are.1 k d within)
        ],
  )

  -- a byte of a device
  module _ (dev off written : ℕ) where
    -- the card at a place becomes another state of the same card, and each of the others stays as it is
    pub card_written :
        (i : ℕ) (old new : CardBytes) → Rises (cards_of cards) →
        position (λ card. card.card.dev == dev) cards ≡ Some i → old ≡ get_or cards i old → new.card ≡ old.card →
        (Is bytes old → Is (stored setup bytes (card_register old.card.dev off) written) new) →
        (setup.cards ≡ cards_of (set cards i new))
        × All (Is (stored setup bytes (card_register dev off) written)) (set cards i new)
    card_written i old new rises at_i is_old same_card step = (
      are.0 ∙ sym (card_kept cards i old new is_old same_card),
      λ k d within.
          let in_list : k < length cards = omega (arith, length-set {A = CardBytes}) in
          let found = position-Some (λ card. card.card.dev == dev) cards i old at_i in
          let first = position-Some (λ card. card.card.dev == dev) cards i d at_i in
          let here = get_or-set_at cards i k new d in
          let other = get_or-set_other cards i k new d in
          let before = first.2 k in
          let after = rises_apart cards rises i k d in
          let beside = card_beside own bytes (card_register dev off) written (get_or cards k d) in
          let own_k = are.1 k d in_list in
          let own_i = are.1 i old found.0 in
          grind (arith, nat_tests, found.0, found.1, first.1),
    )

    -- where no card has the device number no card changes
    pub no_card_written : position (λ card. card.card.dev == dev) cards ≡ None →
        (setup.cards ≡ cards_of cards) × All (Is (stored setup bytes (card_register dev off) written)) cards
    no_card_written none = (
      are.0,
      λ k d within.
          let fitted = own.fitted bytes (get_or cards k d) (are.1 k d within) in
          let none_fitted = fitted_is setup cards dev are.0 in
          let beside = card_beside own bytes (card_register dev off) written (get_or cards k d) in
          let own_k = are.1 k d within in
          grind (arith, nat_tests),
    )

-- ---- after a reset

pub find_at : (cards : List FittedCard) → Rises cards → (k : ℕ) (d : FittedCard) → k < length cards →
    find (λ card. card.dev == (get_or cards k d).dev) cards ≡ Some (get_or cards k d)
find_at [] rises k d within = grind (arith, nat_tests)
find_at (card ∷ later) rises zero d within = grind (arith, nat_tests)
find_at (card ∷ later) rises (suc k) d within = grind (arith, nat_tests, find_at later rises.1 k d (omega arith))

-- each card of a setup can be fitted, and is found by its number
pub found_cards : (setup : Setup) → IsCardList setup.cards →
    All (λ card. IsCard card × (card_at setup card.dev ≡ Some card)) setup.cards
found_cards setup list k d within = (list.each k d within, find_at setup.cards list.rises k d within)

pub reset_cards : (setup : Setup) (cards : List CardBytes) → AreFitted cards → AreReset cards →
    setup.cards ≡ cards_of cards → AreCardsOf setup (reset_byte setup) cards
reset_cards setup cards fitted reset same = (
  same,
  (λ k d within.
      reset k d within setup (rw (same, ← get_or-map card_of cards k d d.card within)
      (find_at (cards_of cards) fitted.rises k d.card (rw (length-map cards card_of) within)))),
)

-- one card more
pub one_more_pushed : (items : List CardBytes) (i : ℕ) (item : CardBytes) (pushed : List FittedCard)
    (spec : FittedCard) → i < length items → item ≡ get_or items i item → spec ≡ item.card →
    pushed ≡ take i (cards_of items) ++ spec ∷ [] → pushed ≡ take (i + 1) (cards_of items)
one_more_pushed items i item pushed spec within at_i same is =
    let here = get_or-map card_of items i item item.card within in
    let more = take_more (cards_of items) i item.card (omega (arith, length-map items card_of)) in
    cc

-- all of them
pub all_pushed : (pushed items own : List CardBytes) (i : ℕ) → cards_of pushed ≡ take i (cards_of items) →
    length items ≤ i → items ≡ own → cards_of pushed ≡ cards_of own
all_pushed pushed items own i front all same =
    rw (← same) (front ∙ take_all i (cards_of items) (omega (arith, all, length-map items card_of)))

-- ---- the same cards in other states

-- cards that can be fitted to a board
pub fitted_list :
    (cards : List CardBytes) (specs : List FittedCard) → cards_of cards ≡ specs → IsCardList specs → AreFitted cards
fitted_list cards specs same list = record {
  each = each_card IsCard cards (rw same list.each);
  rises = rw same list.rises;
}

pub fitted_same :
    (cards cards' : List CardBytes) → cards_of cards' ≡ cards_of cards → AreFitted cards → AreFitted cards'
fitted_same cards cards' same fitted = record {
  each = each_card IsCard cards' (rw same (All-map IsCard card_of cards fitted.each));
  rises = rw same fitted.rises;
}

-- no card has the device number of a bridge
no_low_spec : (cards : List FittedCard) (dev : ℕ) → dev < 2 → All IsCard cards →
    is_some (find (λ card. card.dev == dev) cards) ≡ false
no_low_spec [] dev low each = refl
no_low_spec (card ∷ later) dev low each =
    let above = (All-head IsCard card later each).first in
    let rest = no_low_spec later dev low (All-tail IsCard card later each) in
    grind (arith, nat_tests)

pub no_low_card : (setup : Setup) (cards : List CardBytes) (dev : ℕ) → dev < 2 → AreCards cards →
    setup.cards ≡ cards_of cards → is_some (card_at setup dev) ≡ false
no_low_card setup cards dev low each same = rw same (no_low_spec _ _ low (All-map IsCard card_of cards each))

pub no_low_fitted : (setup : Setup) (dev : ℕ) → dev < 2 → IsCardList setup.cards → is_some (card_at setup dev) ≡ false
no_low_fitted setup dev low list = no_low_spec setup.cards dev low list.each
