use Rattle.std.proofs.Common.{rules, ◌≤◌, ℕ, ◌+◌, ◌-◌, drop, take, Some, ap, sym, ◌∙◌, arith}
use Rattle.board_files.proofs.Known.{passed_more, passed_all}
use Rattle.board_files.proofs.file_shelf.pass_over.Goals as goal

pub returns-then-passed-eq0 : goal.returns-then-passed-eq0
returns-then-passed-eq0 g c = record {
  passed = λ bytes known.
      let more = passed_more _ (g.R.Read.remaining c.read_on.new.file) bytes
      (take c.in_ok-passed.passed c.read_on.new.into)
      (c.args.count - c.loop-left.left) c.in_ok-passed.passed (c.loop-left.invariant.passed bytes known)
      c.in_ok-passed.ensures.bytes.0 (sym c.in_ok-passed.ensures.fits.1) in
      passed_all _ bytes (c.args.count - c.loop-left.left + c.in_ok-passed.passed) c.args.count
      (omega (arith, c.loop-left.invariant.below, c.if-passed-eq0.true)) more
      (c.in_ok-passed.ensures.bytes.1 c.if-passed-eq0.true (search rules));
}

pub loop-left-preserved : goal.loop-left-preserved
loop-left-preserved g c = record {
  below = omega (arith, c.loop-left.invariant.below);
  passed = λ bytes known.
      passed_more _ (g.R.Read.remaining c.read_on.new.file) bytes (take c.in_ok-passed.passed c.read_on.new.into)
      (c.args.count - c.loop-left.left) c.in_ok-passed.passed (c.loop-left.invariant.passed bytes known)
      c.in_ok-passed.ensures.bytes.0 (sym c.in_ok-passed.ensures.fits.1)
      ∙ ap (λ (n : ℕ). Some (drop n bytes))
      (let within : c.in_ok-passed.passed ≤ c.loop-left.left = search rules in
      omega (arith, c.loop-left.invariant.below, within));
}
