use Rattle.std.proofs.Common.{arith}
use Rattle.pci_bars.proofs.ContentsLemmas.{buffer_held}
use Rattle.pci_bars.proofs.contents.Contents.size.Goals as goal
use Rattle.std.proofs.lemmas.Bool.Decides.{nat_tests}

pub returns : goal.returns
returns c = grind (arith, nat_tests, buffer_held)
