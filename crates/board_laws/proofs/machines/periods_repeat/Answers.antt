use Rattle.device_spec.proofs.PitPeriods.{rate_repeats, square_repeats}
use Rattle.board_laws.proofs.machines.periods_repeat.Goals as goal

pub returns : goal.returns
returns c = record { rate = rate_repeats; square = square_repeats }
