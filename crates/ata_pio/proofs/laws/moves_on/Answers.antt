use Rattle.ata_pio.proofs.CountLaws.{moves_on}
use Rattle.ata_pio.proofs.laws.moves_on.Goals as goal

pub returns : goal.returns
returns c = record { law = moves_on }
