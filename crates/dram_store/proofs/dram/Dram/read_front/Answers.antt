use Rattle.std.proofs.Common.{◌≡◌, ◌∙◌, ℕ, [], length, take, replicate, ap, arith, length-take-le}
use Rattle.dram_store.proofs.ConcatLemmas.{past_banks}
use Rattle.dram_store.proofs.StretchLemmas.{front_read, past_read}
use Rattle.dram_store.proofs.dram.Dram.read_front.Goals as goal

pub returns-in-Some-clause-bytes : goal.returns-in-Some-clause-bytes
returns-in-Some-clause-bytes c = λ k within.
    let lookup = rw c.deref.ensures.value at c.in-Some.ensures.lookup in
    let part : length (take c.min-count.result c.args.into.now) ≡ c.min-count.result =
    length-take-le c.min-count.result c.args.into.now (omega (arith, c.min-count.ensures)) in
    rw (← c.self.view_is) (front_read _ _ _ _ _ _ k c.self.invariant.each lookup.3.0 (lookup.3.1 [])
    (omega (arith, c.min-count.ensures)) within (c.read_bytes.ensures.length ∙ part)
    (c.read_bytes.ensures.bytes k (omega (arith, part, within))))

pub returns-in-None-clause-bytes : goal.returns-in-None-clause-bytes
returns-in-None-clause-bytes c = λ k within.
    let beyond = past_banks _ _ c.self.invariant.each (rw c.deref.ensures.value at c.in-None.ensures.lookup.3) in
    let part : length (take c.min-count.result c.args.into.now) ≡ c.min-count.result =
    length-take-le c.min-count.result c.args.into.now (omega (arith, c.min-count.ensures)) in
    rw (← c.self.view_is)
    (past_read _ _ _ _ _ k beyond
    (c.fill.ensures.after (λ y same. same) ∙ ap (λ (n : ℕ). replicate n 0xFF) part) within)
