use Rattle.std.proofs.Common.{[], ◌∙◌, arith}
use Rattle.board_prelude.proofs.{nat_tests}
use Rattle.dram_store.proofs.ConcatLemmas.{past_banks, read_here}
use Rattle.dram_store.proofs.DramLemmas.{read_stored}
use Rattle.dram_store.proofs.dram.Dram.read.Goals as goal

pub returns-in-Some-clause-value : goal.returns-in-Some-clause-value
returns-in-Some-clause-value c =
    let lookup = rw c.deref.ensures.value at c.in-Some.ensures.lookup in
    rw (← c.self.view_is) (c.read.ensures.value ∙ rw (lookup.3.1 [])
    (read_here _ _ _ c.self.invariant.each lookup.3.0 c.requires.aligned))

pub returns-in-Some-clause-stored : goal.returns-in-Some-clause-stored
returns-in-Some-clause-stored c = λ setup history is.
    returns-in-Some-clause-value c ∙ read_stored _ _ _ c.args.addr c.args.width is

pub returns-in-None-clause-value : goal.returns-in-None-clause-value
returns-in-None-clause-value c =
    let past = past_banks _ _ c.self.invariant.each (rw c.deref.ensures.value at c.in-None.ensures.lookup.3) in
    rw (← c.self.view_is) (c.largest.ensures.largest ∙ (grind (arith, nat_tests)))

pub returns-in-None-clause-stored : goal.returns-in-None-clause-stored
returns-in-None-clause-stored c = λ setup history is.
    returns-in-None-clause-value c ∙ read_stored _ _ _ c.args.addr c.args.width is
