-- Bytes of a number, by shifts.
use Rattle.std.proofs.Common.{pow-suc, ◌≡◌, ℕ, zero, suc, ◌*◌, ◌/◌, ◌%◌, ◌<◌, ◌≤◌, ◌^◌, refl, ap, sym, pow-add, arith}
use Rattle.board_prelude.proofs.{pow-le-pow_right, byte, hex_number}
use Rattle.std.proofs.Math.Nat.{div-eq_of_lt}

byte_power : (n : ℕ) → 2 ^ (8 * n) ≡ 256 ^ n
byte_power zero = refl
byte_power (suc n) = rw (pow-suc 256 n, ← byte_power n, ← pow-add 2 (8 * n) 8) (ap (λ k. 2 ^ k) (omega arith))

pub byte_shifted : (value index : ℕ) → value / 2 ^ (8 * index) % 256 ≡ byte value index
byte_shifted value index = ap (λ (unit : ℕ). value / unit % 256) (byte_power index)

-- past the bytes of 64 bits
pub byte_past : (value index : ℕ) → value < 2 ^ 64 → 8 ≤ index → 0 ≡ byte value index
byte_past value index small past =
    let far : 256 ^ 8 ≤ 256 ^ index = pow-le-pow_right (omega arith) past in
    let below : value < 256 ^ index = omega (arith, small, far) in
    ap (λ (n : ℕ). n % 256) (sym (div-eq_of_lt below))

-- the low four bytes are those of the low 32 bits
pub low_long : (value : ℕ) → hex_number 4 value ≡ hex_number 4 (value % 2 ^ 32)
low_long value =
    let at_3 : byte value 3 ≡ byte (value % 2 ^ 32) 3 = omega arith in
    let at_2 : byte value 2 ≡ byte (value % 2 ^ 32) 2 = omega arith in
    let at_1 : byte value 1 ≡ byte (value % 2 ^ 32) 1 = omega arith in
    let at_0 : byte value 0 ≡ byte (value % 2 ^ 32) 0 = omega arith in
    cc
