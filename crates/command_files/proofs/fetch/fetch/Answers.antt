use Rattle.std.proofs.Common.{refl}
use Rattle.command_files.proofs.fetch.fetch.Goals as goal

pub returns-in-Err-Failed-clause-no_fault : goal.returns-in-Err-Failed-clause-no_fault
returns-in-Err-Failed-clause-no_fault g c = λ other. absurd (other _ refl)
