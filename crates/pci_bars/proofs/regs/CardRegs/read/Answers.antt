use Rattle.std.proofs.Common.{arith}
use Rattle.board_prelude.proofs.{nat_tests}
use Rattle.pci_bars.proofs.CardLemmas.{read}
use Rattle.pci_bars.proofs.regs.CardRegs.read.Goals as goal

pub returns-in-61-clause-byte : goal.returns-in-61-clause-byte
returns-in-61-clause-byte c = λ setup bytes is.
    let own = read setup bytes c.args.self.now c.args.off c.requires.card is in grind (arith, nat_tests)

pub returns-in-0-to-15-clause-byte : goal.returns-in-0-to-15-clause-byte
returns-in-0-to-15-clause-byte c = λ setup bytes is.
    let own = read setup bytes c.args.self.now c.args.off c.requires.card is in grind (arith, nat_tests)

pub returns-in-48-to-51-clause-byte : goal.returns-in-48-to-51-clause-byte
returns-in-48-to-51-clause-byte c = λ setup bytes is.
    let own = read setup bytes c.args.self.now c.args.off c.requires.card is in grind (arith, nat_tests)

pub returns-in_default-clause-byte : goal.returns-in_default-clause-byte
returns-in_default-clause-byte c = λ setup bytes is.
    let own = read setup bytes c.args.self.now c.args.off c.requires.card is in grind (arith, nat_tests)

pub returns-in_default-2-clause-byte : goal.returns-in_default-2-clause-byte
returns-in_default-2-clause-byte c = λ setup bytes is.
    let own = read setup bytes c.args.self.now c.args.off c.requires.card is in grind (arith, nat_tests)
