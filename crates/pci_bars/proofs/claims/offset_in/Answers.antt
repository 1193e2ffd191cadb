use Rattle.std.proofs.Common.{◌≡◌, ◌%◌, ◌^◌}
use Rattle.board_prelude.proofs.{window_bits, Setup}
use Rattle.pci_bars.specs.Cards.{cards_of}
use Rattle.pci_bars.proofs.WindowLemmas.{memory_claim_sized, io_claim_sized}
use Rattle.pci_bars.proofs.claims.offset_in.Goals as goal

pub returns : goal.returns
returns c =
    let offset : (setup : Setup) → setup.cards ≡ cards_of c.args.cards.now →
    c.low_bits.result ≡ c.args.place % 2 ^ window_bits setup c.args.dev c.args.base =
    λ setup same. rw (same, ← c.bits_at.ensures.bits) c.low_bits.ensures.low in
    record {
      offset = offset;
      memory = λ setup bytes window are found same_dev same_base.
          rw (
            (memory_claim_sized setup bytes c.args.cards.now _ _ c.requires.cards are found).bits,
            same_dev,
            same_base,
          ) (offset setup are.0);
      ports = λ setup bytes window are found same_dev same_base.
          rw ((io_claim_sized setup bytes c.args.cards.now _ _ c.requires.cards are found).bits, same_dev, same_base)
          (offset setup are.0);
    }
