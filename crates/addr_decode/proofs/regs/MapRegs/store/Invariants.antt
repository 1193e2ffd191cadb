use Rattle.std.proofs.Common.{◌≡◌}
use Rattle.board_prelude.proofs.{Setup, Bytes}
use Rattle.pci_bars.specs.Cards.{AreCardsOf, cards_of}
use Rattle.addr_decode.specs.MapRegs.{StandsFor, map_bytes}
use Rattle.addr_decode.proofs.StandsLemmas.{stored_so_far}
use Rattle.addr_decode.proofs.regs.MapRegs.store.Given as goal

abbrev pub invariant-loop-k : goal.invariant-loop-k
invariant-loop-k l = record {
  stands : (setup : Setup) (bytes : Bytes) → StandsFor setup bytes (map_bytes l.fn.self) →
      StandsFor setup (stored_so_far setup bytes l.reg l.value l.k) (map_bytes l.self);
  cards : (setup : Setup) (bytes : Bytes) → AreCardsOf setup bytes l.fn.self.cards.items →
      AreCardsOf setup (stored_so_far setup bytes l.reg l.value l.k) l.self.cards.items;
  same : cards_of l.self.cards.items ≡ cards_of l.fn.self.cards.items;
}
