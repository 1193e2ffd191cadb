use Rattle.std.proofs.Common.{◌≡◌, ◌∙◌, refl, arith, slice_index}
use Rattle.board_prelude.proofs.{Bytes, byte, nat_tests}
use Rattle.pci_bars.specs.Cards.{AreCardsOf}
use Rattle.addr_decode.specs.MapRegs.{StandsFor, map_bytes}
use Rattle.addr_decode.proofs.CardLemmas.{fitted_same}
use Rattle.addr_decode.proofs.NameLemmas.{named_so_far}
use Rattle.addr_decode.proofs.StandsLemmas.{none_stored, one_more_stored, all_stored, all_cards_stored}
use Rattle.addr_decode.proofs.regs.MapRegs.store.Goals as goal

pub loop-k-init : goal.loop-k-init
loop-k-init c = record {
  stands = λ setup bytes stands.
      none_stored (λ (b : Bytes). StandsFor setup b (map_bytes c.args.self.now)) setup bytes _ _ stands;
  cards = λ setup bytes are.
      none_stored (λ (b : Bytes). AreCardsOf setup b c.args.self.now.cards.items) setup bytes _ _ are;
  same = refl;
}

pub store_after-requires : goal.store_after-requires
store_after-requires c = record {
  cards = fitted_same _ _ c.loop-k.invariant.same c.requires.cards;
  name = rw (c.from-place.ensures) (named_so_far _ _ _ _ _ _ _ (omega arith) c.loop-k.invariant.same c.requires.names);
}

this_byte : (c : goal.After-store_after) →
    slice_index c.to_le_bytes-bytes.result c.from-place.result ≡ byte c.args.value c.loop-k.k
this_byte c = grind (arith, nat_tests)

pub loop-k-preserved : goal.loop-k-preserved
loop-k-preserved c = record {
  stands = λ setup bytes stands.
      one_more_stored (λ (b : Bytes). StandsFor setup b (map_bytes c.store_after.new.self)) setup bytes _ _ _ _
      (this_byte c) (c.store_after.ensures.stands setup _ (c.loop-k.invariant.stands setup bytes stands));
  cards = λ setup bytes are.
      one_more_stored (λ (b : Bytes). AreCardsOf setup b c.store_after.new.self.cards.items) setup bytes _ _ _ _
      (this_byte c) (c.store_after.ensures.cards setup _ (c.loop-k.invariant.cards setup bytes are));
  same = c.store_after.ensures.same_cards ∙ c.loop-k.invariant.same;
}

pub returns-clause-stands : goal.returns-clause-stands
returns-clause-stands c = λ setup bytes stands.
    all_stored setup bytes _ _ _ c.loop-k.k (omega arith) _ (fitted_same _ _ c.loop-k.invariant.same c.requires.cards)
    (c.loop-k.invariant.stands setup bytes stands)

pub returns-clause-cards : goal.returns-clause-cards
returns-clause-cards c = λ setup bytes are.
    all_cards_stored setup bytes _ _ _ c.loop-k.k (omega arith) _
    (fitted_same _ _ c.loop-k.invariant.same c.requires.cards).each (c.loop-k.invariant.cards setup bytes are)
