use Rattle.std.proofs.Common.{[], take, reverse}
use Rattle.board_prelude.proofs.{Setup, registers_after}
use Rattle.pci_bars.specs.Cards.{AreFitted}
use Rattle.addr_decode.specs.MapRegs.{StandsFor, map_bytes}
use Rattle.map_blame.proofs.watch.changed_regs.Given as goal

abbrev pub invariant-loop-change : goal.invariant-loop-change
invariant-loop-change l = record {
  fitted : AreFitted l.regs.cards.items;
  after : (setup : Setup) → StandsFor setup (registers_after setup []) (map_bytes l.fn.regs) →
      StandsFor setup (registers_after setup (reverse (take l.change-index l.changes))) (map_bytes l.regs);
}
