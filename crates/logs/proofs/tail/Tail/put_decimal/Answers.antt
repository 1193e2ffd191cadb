use Rattle.std.proofs.lemmas.Bool.Decides.{nat_tests}
use Rattle.std.proofs.Common.{ℕ, ◌≤◌, ◌<◌, ◌^◌, arith, length, decimal, length-append, length-drop}
use Rattle.std.proofs.lemmas.Fmt.{IsAscii-decimal, length-decimal-le}
use Rattle.std.proofs.lemmas.Str.{IsAscii-append}
use Rattle.logs.proofs.tail.Tail.put_decimal.Goals as goal

long_line : (n : ℕ) → n < 2 ^ 64 → length (decimal n) ≤ 20
long_line n fits = length-decimal-le 20 n (omega arith) (omega (arith, fits)) fits

pub write_digits-start-requires : goal.write_digits-start-requires
write_digits-start-requires c = grind (arith, nat_tests, length-append, length-drop, long_line)

pub invariant_of-self : goal.invariant_of-self
invariant_of-self c =
    let start = c.write_digits-start.ensures.start in (
      omega (arith, start, c.self.invariant.0),
      rw c.write_digits-start.ensures.written
          (IsAscii-append _ _ (IsAscii-decimal c.args.number c.ranges.number.fits) c.self.invariant.1),
    )

pub returns-clause-length : goal.returns-clause-length
returns-clause-length c = grind (arith, nat_tests, length-append, length-drop, long_line)
