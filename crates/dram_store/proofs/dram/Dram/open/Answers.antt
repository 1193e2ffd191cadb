use Rattle.std.proofs.Common.{arith}
use Rattle.dram_store.proofs.DramLemmas.{fresh}
use Rattle.dram_store.proofs.dram.Dram.open.Goals as goal

pub returns-clause-fresh : goal.returns-clause-fresh
returns-clause-fresh c setup same =
    fresh setup c.loop.banks.items c.loop.invariant.each c.loop.invariant.zeros (omega (arith, c.loop.invariant.count))
