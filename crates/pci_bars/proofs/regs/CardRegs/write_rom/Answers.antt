use Rattle.std.proofs.Common.{arith, rules, inr}
use Rattle.board_prelude.proofs.{nat_tests}
use Rattle.pci_bars.proofs.CardLemmas.{are_written, rom_stored}
use Rattle.pci_bars.proofs.regs.CardRegs.write_rom.Goals as goal

pub returns : goal.returns
returns c =
    let fit = rw (← c.self.view_is) at c.requires.card in
    let store = rom_stored _ c.args.off c.args.byte c.with_byte-self-inside.result (omega arith) (omega arith) (record {
      small = inr c.with_byte-self-inside.type_inv;
      each = λ j below.
          let here = rw c.rom_writable-writable.ensures.writable at c.with_byte-self-inside.ensures.here in
          let others = c.with_byte-self-inside.ensures.others j below in
          grind (arith, nat_tests);
    }) in
    let both = are_written _ _ _ _ fit c.ranges.byte.fits store in
    rw (← c.self.view_is) (record { written = both.1; decodes = both.0; same_card = search rules })
