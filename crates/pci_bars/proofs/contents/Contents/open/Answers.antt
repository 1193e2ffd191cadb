use Rattle.std.proofs.Common.{◌≡◌, arith}
use Rattle.pci_bars.proofs.ContentsLemmas.{lists, size_held, stored_at_first}
use Rattle.pci_bars.proofs.contents.Contents.open.Goals as goal
use Rattle.std.proofs.lemmas.Bool.Decides.{nat_tests}

pub returns-clause-stored : goal.returns-clause-stored
returns-clause-stored c =
    let whole : c.loop-slot.slot ≡ 64 = omega arith in
    stored_at_first c.args.specs.now (lists c.loop-slot.buffers.items) (rw whole at c.loop-slot.invariant)

pub returns-clause-sizes : goal.returns-clause-sizes
returns-clause-sizes c = grind (arith, nat_tests, size_held, lists, c.loop-slot.invariant)
