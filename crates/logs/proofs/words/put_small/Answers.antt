use Rattle.std.proofs.Common.{ℕ, ap, arith, length, decimal, length-append}
use Rattle.std.proofs.lemmas.Fmt.{length-decimal-le}
use Rattle.logs.proofs.words.put_small.Goals as goal

pub returns-else-number-lt10-clause-length : goal.returns-else-number-lt10-clause-length
returns-else-number-lt10-clause-length c =
    let fits = c.ranges.number.fits in
    let long = length-decimal-le 3 c.args.number (omega arith) (omega (arith, fits)) (omega (arith, fits)) in
    let now = ap length c.put_decimal.ensures.words in
    let size = length-append (decimal c.from.result) c.args.line.now in
    let same = ap (λ (n : ℕ). length (decimal n)) c.from.ensures in
    omega (arith, long, now, size, same)
