use Rattle.std.proofs.Common.{arith}
use Rattle.board_prelude.proofs.{nat_tests}
use Rattle.map_blame.proofs.keep.is_kept.Goals as goal

pub returns-else-eq : goal.returns-else-eq
returns-else-eq c = grind (arith, nat_tests)
