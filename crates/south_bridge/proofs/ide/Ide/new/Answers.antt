use Rattle.south_bridge.proofs.IdeLemmas.{ide_at_reset}
use Rattle.south_bridge.proofs.ide.Ide.new.Goals as goal

pub returns : goal.returns
returns c = record { reset = ide_at_reset }
