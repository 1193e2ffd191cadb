use Rattle.std.proofs.Common.{refl}
use Rattle.std.specs.Process.{exit_status}
use Rattle.promises.proofs.Programs.{caused_so, comes_so, possible_so, read_so, put_so, usage_so}
use Rattle.promises.proofs.Programs.{no_command_so, silent_so, told_so}
use Rattle.promises.proofs.program.program_with_causes.Goals as goal

pub returns : goal.returns
returns g c =
    let code = exit_status c.run_program.result in
    let ends = c.run_program.ensures.ends in
    record {
      cause = λ words command files before now given texts there are told took takes.
          caused_so _ _ _ _ code ends words given command there are _ told refl refl refl refl refl took takes texts;
      comes = λ words command files wanted given texts there are told asks quiet_shelf quiet_out.
          comes_so _ _ _ _ code ends words given command there are texts files wanted told asks quiet_shelf quiet_out;
      possible = λ words command given texts there are.
          possible_so _ _ _ _ code ends words given command there are texts;
      read_faults = read_so _ _ _ _ code ends;
      put_faults = put_so _ _ _ _ code ends;
      usage = λ words given. usage_so _ _ _ _ code ends words given;
      no_command = λ words given. no_command_so _ _ _ _ code ends words given;
      silent = λ before now took takes. silent_so _ _ _ _ code ends before now took takes;
      told = λ before now took takes. told_so _ _ _ _ code ends before now took takes;
    }
