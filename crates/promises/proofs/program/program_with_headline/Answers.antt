use Rattle.std.specs.Process.{exit_status}
use Rattle.promises.proofs.Programs.{done_text}
use Rattle.promises.proofs.program.program_with_headline.Goals as goal

pub returns : goal.returns
returns g c = record {
  done = λ words command files before now given there are zero told took takes.
      done_text _ _ _ _ (exit_status c.run_program.result) c.run_program.ensures.ends words given command there are
      files before now zero told took takes;
}
