-- The names so far are those of the first registers.
use Rattle.std.proofs.Common.{◌≡◌, take, map}
use Rattle.arrayvec.specs.ArrayVec.{array_vec_len}
use Rattle.board_spec.specs.MapWrites.{reg_after}
use Rattle.pci_bars.specs.Cards.{cards_of}
use Rattle.addr_decode.specs.MapRegister.{map_register}
use Rattle.addr_decode.proofs.NameLemmas.{offsets}
use Rattle.addr_decode.proofs.regs.MapRegs.names_from.Given as goal

abbrev pub invariant-loop-k : goal.invariant-loop-k
invariant-loop-k l = record {
  count : array_vec_len l.names ≡ l.k;
  named : l.names.items ≡ map (λ k. map_register (cards_of l.self.cards.items) (reg_after l.reg k)) (take l.k offsets);
}
