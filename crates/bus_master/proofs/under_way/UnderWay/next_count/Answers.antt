use Rattle.std.proofs.lemmas.Bool.Decides.{nat_tests}
use Rattle.std.proofs.Common.{arith}
use Rattle.bus_master.proofs.PieceLemmas.{ends_at_count}
use Rattle.bus_master.proofs.under_way.UnderWay.next_count.Goals as goal

pub returns-in-Err-clause-next : goal.returns-in-Err-clause-next
returns-in-Err-clause-next c = grind (arith, nat_tests, ends_at_count)
