use Rattle.run_order.proofs.Phases.{phase_runs}
use Rattle.run_order.proofs.laws.law_phase_runs.Goals as goal

pub returns : goal.returns
returns c = record { runs = phase_runs c.law_blind_answers.ensures.blind }
