use Rattle.std.proofs.Common.{◌≡◌, ◌≤◌, length, take}
use Rattle.arrayvec.specs.ArrayVec.{array_vec_len}
use Rattle.pci_bars.specs.Cards.{cards_of, AreReset}
use Rattle.addr_decode.proofs.regs.MapRegs.reset.Given as goal

abbrev pub invariant-loop-card : goal.invariant-loop-card
invariant-loop-card l = record {
  from : l.card-items ≡ l.fn.self.cards.items;
  few : length l.card-items ≤ 8;
  count : array_vec_len l.cards ≡ l.card-index;
  pushed : cards_of l.cards.items ≡ take l.card-index (cards_of l.card-items);
  reset : AreReset l.cards.items;
}
