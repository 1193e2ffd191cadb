use Rattle.std.proofs.Common.{◌∙◌}
use Rattle.board_prelude.proofs.{io_claim, io_windows}
use Rattle.pci_bars.proofs.ClaimLemmas.{claim_is, io_windows_are, Open, Ports}
use Rattle.pci_bars.proofs.claims.claim_io.Goals as goal

pub returns : goal.returns
unfolding io_claim
returns c = record {
  claim = λ setup bytes are.
      rw c.from.ensures at c.first.ensures.first
      ∙ claim_is setup bytes _ _ c.requires.cards are Ports Open (io_windows bytes) (io_windows_are bytes);
}
