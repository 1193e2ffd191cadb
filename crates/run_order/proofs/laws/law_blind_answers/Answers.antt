use Rattle.run_order.proofs.Blindness.{blind_at}
use Rattle.run_order.proofs.laws.law_blind_answers.Goals as goal

pub returns : goal.returns
returns c = record { blind = blind_at c.law_memory_leaves_devices.ensures.same }
