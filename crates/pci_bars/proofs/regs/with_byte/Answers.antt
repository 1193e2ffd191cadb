use Rattle.pci_bars.proofs.BaseLemmas.{other_bytes}
use Rattle.pci_bars.proofs.regs.with_byte.Goals as goal

pub returns-clause-others : goal.returns-clause-others
returns-clause-others c =
    λ j below apart.
    other_bytes c.args.register c.args.lane c.merged.result c.from_le_bytes.result j c.requires.lane
    c.merged.type_inv (rw c.to_le_bytes-bytes.ensures at c.from_le_bytes.ensures) below apart
