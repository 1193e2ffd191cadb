use Rattle.pci_bars.proofs.CardLemmas.{card_at_reset}
use Rattle.pci_bars.proofs.regs.CardRegs.new.Goals as goal

pub returns-clause-reset : goal.returns-clause-reset
returns-clause-reset c =
    λ setup fitted.
    card_at_reset setup c.args.spec c.reset_bases-bases.result c.requires.card fitted
    c.reset_bases-bases.ensures.reset
