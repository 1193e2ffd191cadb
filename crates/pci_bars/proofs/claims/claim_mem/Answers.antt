use Rattle.std.proofs.Common.{◌∙◌, refl}
use Rattle.board_prelude.proofs.{memory_claim, memory_windows}
use Rattle.pci_bars.proofs.ClaimLemmas.{claim_is, Open, Memory}
use Rattle.pci_bars.proofs.claims.claim_mem.Goals as goal

pub returns : goal.returns
unfolding memory_claim
returns c = record {
  claim = λ setup bytes are.
      c.first.ensures.first
      ∙ claim_is setup bytes _ _ c.requires.cards are Memory Open (memory_windows bytes) (λ card. refl);
}
