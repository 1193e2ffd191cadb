use Rattle.ata_pio.proofs.WordLaws.{sector_is_read}
use Rattle.ata_pio.proofs.laws.sector_is_read.Goals as goal

pub returns : goal.returns
returns c = record { law = sector_is_read }
