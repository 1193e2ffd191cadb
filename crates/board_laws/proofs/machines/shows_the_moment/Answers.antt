use Rattle.board_laws.proofs.ClockLaws.{shows}
use Rattle.board_laws.proofs.machines.shows_the_moment.Goals as goal

pub returns : goal.returns
returns c = record { law = shows }
