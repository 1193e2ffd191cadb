use Rattle.ata_pio.proofs.CountLaws.{write_moves_its_sectors}
use Rattle.ata_pio.proofs.laws.write_moves_its_sectors.Goals as goal

pub returns : goal.returns
returns c = record { law = write_moves_its_sectors }
