use Rattle.bus_master.proofs.HeldTargets.{cards_fitted}
use Rattle.bus_master.proofs.under_way.read_doubleword.Goals as goal

pub answering-requires : goal.answering-requires
answering-requires c = record { cards = cards_fitted c.requires.sound.2 }
