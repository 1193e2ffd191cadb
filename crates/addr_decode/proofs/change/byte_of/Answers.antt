use Rattle.std.proofs.Common.{sym}
use Rattle.board_prelude.proofs.{IsCard}
use Rattle.pci_bars.specs.Cards.{DecodesAs}
use Rattle.pci_bars.proofs.CardListLemmas.{found}
use Rattle.addr_decode.proofs.change.byte_of.Goals as goal

pub read-requires : goal.read-requires
read-requires c = record {
  card = (found (λ card. IsCard card.card) _ _ _ c.requires.cards (sym c.in-Some.ensures.found)).0;
}

pub returns-in-Some : goal.returns-in-Some
returns-in-Some c = record {
  byte = λ setup bytes are is above.
      let it =
      found (DecodesAs setup bytes) c.args.cards.now c.args.dev _ are.1 (sym c.in-Some.ensures.found) in
      rw (← it.1) (c.read.ensures.decoded setup bytes it.0 (rw (← it.1) at is));
}
