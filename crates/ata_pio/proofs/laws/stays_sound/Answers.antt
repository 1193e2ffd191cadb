use Rattle.ata_pio.proofs.SoundLaws.{stays_sound}
use Rattle.ata_pio.proofs.laws.stays_sound.Goals as goal

pub returns : goal.returns
returns c = record { law = stays_sound }
