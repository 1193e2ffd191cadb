use Rattle.std.proofs.Common.{Ok, ◌∙◌, refl, sym}
use Rattle.script_spec.specs.Grammar.{SetCpus}
use Rattle.scripts.proofs.Reasons.{out_of_range, name_judged, cpus_kept}
use Rattle.scripts.proofs.reading.Reading.validate_cpus.Goals as goal

pub returns-then-is_within : goal.returns-then-is_within
returns-then-is_within c = record {
  judged = λ items is. name_judged items c.args.self.now (SetCpus c.args.count) (Ok tt) is refl
      (sym c.is_within.ensures.within ∙ c.if-is_within.true) refl refl refl refl
      (c.in_ok-validate_setup.ensures.judged items (SetCpus c.args.count) is refl
      (cpus_kept items c.args.self.now is ∙ sym c.is_some.ensures));
}

pub returns-else-is_within : goal.returns-else-is_within
returns-else-is_within c = record {
  judged = λ items is.
      let stands = c.in_ok-validate_setup.ensures.judged items (SetCpus c.args.count) is refl
      (cpus_kept items c.args.self.now is ∙ sym c.is_some.ensures) in
      out_of_range items (SetCpus c.args.count) stands.0 stands.1 refl (sym c.is_within.ensures.within
      ∙ c.if-is_within.false);
}
