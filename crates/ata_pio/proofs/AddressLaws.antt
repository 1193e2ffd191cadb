-- The registers that are written back for a sector name it.
use Rattle.std.proofs.Common.{arith}
use Rattle.std.proofs.lemmas.Bool.Decides.{nat_tests}
use Rattle.ata_pio.specs.Ata.Laws.{WrittenBackNames}

pub written_back_names : WrittenBackNames
written_back_names r s h = grind (arith, nat_tests)
