use Rattle.std.proofs.Common.{◌≡◌, drop, flat_map}
use Rattle.addr_decode.specs.EdgeSearch.{nearest, ends_of_card}
use Rattle.addr_decode.proofs.edges.Nearest.see_cards.Given as goal

abbrev pub invariant-loop-card : goal.invariant-loop-card
invariant-loop-card l = record {
  so_far : nearest l.self.addr l.self.edge (flat_map ends_of_card (drop l.card-index l.cards))
      ≡ nearest l.fn.self.addr l.fn.self.edge (flat_map ends_of_card l.cards);
  same : l.self.addr ≡ l.fn.self.addr;
}
