use Rattle.std.proofs.Common.{◌≡◌, take}
use Rattle.arrayvec.specs.ArrayVec.{array_vec_len}
use Rattle.pci_bars.specs.Cards.{cards_of, AreReset}
use Rattle.addr_decode.proofs.regs.MapRegs.reset_of.Given as goal

abbrev pub invariant-loop-spec : goal.invariant-loop-spec
invariant-loop-spec l = record {
  count : array_vec_len l.cards ≡ l.spec-index;
  pushed : cards_of l.cards.items ≡ take l.spec-index l.specs;
  reset : AreReset l.cards.items;
}
