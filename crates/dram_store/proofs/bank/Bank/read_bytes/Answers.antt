use Rattle.std.proofs.Common.{◌≡◌, ◌-◌, length, arith, rules}
use Rattle.dram_store.proofs.StretchLemmas.{bytes_read}
use Rattle.dram_store.proofs.bank.Bank.read_bytes.Goals as goal

pub returns-clause-bytes : goal.returns-clause-bytes
returns-clause-bytes c = λ k within.
    let fills : length c.fill.new.self ≡ length c.args.into.now - c.min-count.result = search rules in
    rw (← c.self.view_is)
    (bytes_read _ _ c.args.into.now c.copy_from_slice.new.self c.fill.new.self _ c.args.at c.min-from.result _ _ k
    (omega (arith, c.len.ensures, c.min-from.ensures)) (omega (arith, c.len-2.ensures, c.min-count.ensures))
    c.deref.ensures.value c.copy_from_slice.ensures.after (c.fill.ensures.after (λ y same. same)) fills within)
