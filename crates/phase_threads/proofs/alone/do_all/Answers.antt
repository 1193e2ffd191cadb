use Rattle.std.proofs.Common.{rules}
use Rattle.phase_threads.proofs.Phases.{three_on_ok}
use Rattle.phase_threads.proofs.OneActs.{has_acted}
use Rattle.phase_threads.proofs.alone.do_all.Goals as goal

pub returns : goal.returns
returns g c = record {
  acted = λ keeps can.
      rw c.from.ensures (three_on_ok c.run.result (λ done mine asked.
      has_acted c.args.works.now.items c.index_mut.result.now c.run.new.self can (search rules) c.run.ensures.setup
      (search rules) mine asked done) c.run.ensures.done c.run.ensures.mine c.run.ensures.asked);
}
