use Rattle.std.proofs.Common.{ℕ, ◌≤◌, ◌<◌, ◌^◌, arith, length, decimal}
use Rattle.std.proofs.lemmas.Fmt.{length-decimal-le}
use Rattle.run_log.proofs.join.push_numbered.Goals as goal

long_line : (n : ℕ) → n < 2 ^ 64 → length (decimal n) ≤ 20
long_line n fits = length-decimal-le 20 n (omega arith) (omega (arith, fits)) fits

pub write_digits-start-requires : goal.write_digits-start-requires
write_digits-start-requires c = (long_line c.args.n c.ranges.n.fits, omega arith)
