use Rattle.board_base.proofs.ZeroLemmas.{zero_at}
use Rattle.log_check.proofs.numbers.Numbers.new.Goals as goal

pub returns : goal.returns
returns c = record { none = λ actor below. zero_at 256 actor }
