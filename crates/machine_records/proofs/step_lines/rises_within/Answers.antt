use Rattle.machine_records.proofs.StepPulses.{never_pulsed, pulsed_within}
use Rattle.machine_records.proofs.step_lines.rises_within.Goals as goal

pub returns-in-Some : goal.returns-in-Some
returns-in-Some c = record {
  pulsed =
      pulsed_within c.args.chipset.now c.args.count c.in-Some.first c.in-Some.ensures.held c.in-Some.ensures.rise;
}

pub returns-in-None : goal.returns-in-None
returns-in-None c = record {
  pulsed = never_pulsed c.args.chipset.now c.args.count c.in-None.ensures.held c.in-None.ensures.rise;
}
