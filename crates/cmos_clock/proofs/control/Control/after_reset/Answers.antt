-- The mask 87h keeps bit 7 and the three low bits.
use Rattle.std.proofs.Common.{◌≡◌, ℕ, ◌+◌, ◌*◌, ◌/◌, ◌%◌, bit_and, arith}
use Rattle.std.proofs.lemmas.Bool.Decides.{nat_tests}
use Rattle.std.proofs.lemmas.Nat.{and_mask, and_block}
use Rattle.cmos_clock.proofs.control.Control.after_reset.Goals as goal

-- bit 7 and what is below it, apart
split : (n : ℕ) → bit_and n 135 ≡ n / 128 % 2 * 128 + n % 8
split n =
    let parts = and_block 7 (n / 128) 1 (n % 128) 7 (omega arith) (omega arith) in
    let whole : n / 128 * 128 + n % 128 ≡ n = omega arith in
    omega (arith, rw whole at parts, and_mask (n / 128) 1, and_mask (n % 128) 3)

pub returns : goal.returns
returns c = record { byte = rw (split c.args.self.byte) (grind (arith, nat_tests)) }
