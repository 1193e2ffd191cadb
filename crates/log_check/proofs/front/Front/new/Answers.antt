use Rattle.std.proofs.Common.{ℕ, drop, ap}
use Rattle.board_base.proofs.ZeroLemmas.{zero_at}
use Rattle.board_spec.specs.Orders.{events_by}
use Rattle.log_check.proofs.front.Front.new.Goals as goal

pub returns-clause-left : goal.returns-clause-left
returns-clause-left c = λ actor. ap (λ (n : ℕ). events_by actor (drop n c.args.phase.now)) (zero_at 256 actor)
