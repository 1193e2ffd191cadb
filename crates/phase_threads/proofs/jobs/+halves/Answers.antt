use Rattle.phase_threads.specs.Jobs.{Runs}
use Rattle.phase_threads.proofs.Workers.{zip_both, all_idle}
use Rattle.phase_threads.proofs.jobs.+halves.Goals as goal

pub run_jobs-returns-then-are_idle : goal.run_jobs-returns-then-are_idle
run_jobs-returns-then-are_idle g t c =
    let low = all_idle c.args.live.now c.args.phase.now _ (c.are_idle.ensures.idle c.if-are_idle.true) in
    record {
      runs = zip_both (Runs c.args.live.now c.args.phase.now) _ _ _ _ c.args.jobs.now
          c.split_at_mut-low.ensures.value low c.run_jobs.ensures.runs;
    }

pub run_jobs-returns-then-are_idle-2 : goal.run_jobs-returns-then-are_idle-2
run_jobs-returns-then-are_idle-2 g t c =
    let high = all_idle c.args.live.now c.args.phase.now _
    (c.are_idle-else-are_idle.ensures.idle c.if-are_idle-2.true) in
    record {
      runs = zip_both (Runs c.args.live.now c.args.phase.now) _ _ _ _ c.args.jobs.now
          c.split_at_mut-low.ensures.value c.run_jobs-then-are_idle-2.ensures.runs high;
    }

pub run_jobs-returns-else-are_idle-2 : goal.run_jobs-returns-else-are_idle-2
run_jobs-returns-else-are_idle-2 g t c =
    record {
      runs = zip_both (Runs c.args.live.now c.args.phase.now) _ _ _ _ c.args.jobs.now
          c.split_at_mut-low.ensures.value c.run_both.ensures.low c.run_both.ensures.high;
    }
