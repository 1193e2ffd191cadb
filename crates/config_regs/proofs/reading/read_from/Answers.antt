use Rattle.board_prelude.proofs.{nat_tests, cases_eq, bytes_few, Width, bytes_of, wide}
use Rattle.std.proofs.Common.{◌≡◌, ℕ, ◌+◌, ◌<◌, ◌∙◌, inl, inr, length-set, get_or-set_same, get_or-set_other, arith}
use Rattle.config_regs.proofs.reading.read_from.Goals as goal

wide_shifted : (f g : ℕ → ℕ) (at : ℕ) (width : Width) → ((k : ℕ) → k < bytes_of width → f k ≡ g (at + k)) →
    wide f 0 width ≡ wide g at width
wide_shifted f g at width same = grind (arith, nat_tests, same)

pub loop-index-preserved : goal.loop-index-preserved
loop-index-preserved c =
    let read = c.loop-index.bytes in
    let few = bytes_few c.args.width in
    let four = c.loop-index.invariant.four in
    record {
      four = length-set read c.from.result c.read_byte.result ∙ four;
      read = λ setup bytes is has k below. rw c.from.ensures elim (cases_eq k c.loop-index.index) [
        | inl here ↦
            rw (here, get_or-set_same read c.loop-index.index c.read_byte.result 0 (omega arith))
            (c.read_byte.ensures.byte setup bytes is has)
        | inr apart ↦
            get_or-set_other read c.loop-index.index k c.read_byte.result 0 apart
            ∙ c.loop-index.invariant.read setup bytes is has k (omega arith)
      ];
    }

pub returns : goal.returns
returns c = record {
  value = λ setup bytes is has.
      c.read_at.ensures.value
      ∙ wide_shifted _ (λ off. bytes (record c.args.register.now.reg { off = off })) _ _
      (λ k below. c.loop-index.invariant.read setup bytes is has k (omega arith));
}
