use Rattle.ata_pio.proofs.CountLaws.{read_moves_its_sectors}
use Rattle.ata_pio.proofs.laws.read_moves_its_sectors.Goals as goal

pub returns : goal.returns
returns c = record { law = read_moves_its_sectors }
