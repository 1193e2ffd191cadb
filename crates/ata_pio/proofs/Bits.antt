-- Tests and fields of a byte, as the code masks them and as the definitions divide.
use Rattle.std.proofs.Common.{◌≡◌, ℕ, ◌/◌, ◌%◌, ◌<◌, bit_and, bit_or, ap, ◌∙◌, arith}
use Rattle.std.proofs.lemmas.Nat.{or_shifted}
use Rattle.std.proofs.lemmas.Nat.Bits.{and_high}
use Rattle.device_spec.specs.Ata.Address.{with_head}

-- `(device & !HEAD_BITS) | head`
pub head_put : (device head : ℕ) → device < 256 → head < 16 → bit_or (bit_and device 240) head ≡ with_head device head
head_put device head d h =
    ap (λ m. bit_or m head) (and_high device 4 4)
    ∙ or_shifted (device / 16 % 16) 4 head h
    ∙ (omega arith)
