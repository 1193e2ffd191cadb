-- The configuration address keeps what it has kept, and its low two bits are 0.
use Rattle.std.proofs.Common.{◌≡◌, ℕ, ◌+◌, ◌%◌, ◌≤◌, ◌∙◌, sym, ap, arith}
use Rattle.std.proofs.lemmas.Nat.{and_assoc, and_mod}
use Rattle.board_prelude.proofs.{and_zero_r, Width, One, bytes_of, kept_address}
use Rattle.board_base.specs.declared.access.Width.TheVariants.{Two, Four}

pub kept_address-again : (value : ℕ) → kept_address (kept_address value) ≡ kept_address value
kept_address-again value = and_assoc 0x80FF_FFFC value 0x80FF_FFFC

pub kept_address-low_bits : (value : ℕ) → kept_address value ≡ value → value % 4 ≡ 0
kept_address-low_bits value kept = ap (λ n. n % 4) (sym kept) ∙ and_mod value 0x80FF_FFFC 2 ∙ and_zero_r (value % 4)

-- an aligned access from a port on stays within 256 bytes
pub within_space : (address port low place : ℕ) (width : Width) → address % 4 ≡ 0 → low ≡ address % 256 →
    place ≡ port % 4 → port % bytes_of width ≡ 0 → low + place + bytes_of width ≤ 256
within_space address port low place One fourth is_low is_place aligned = omega arith
within_space address port low place Two fourth is_low is_place aligned = omega arith
within_space address port low place Four fourth is_low is_place aligned = omega arith
