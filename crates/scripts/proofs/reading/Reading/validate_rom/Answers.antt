use Rattle.std.proofs.Common.{◌∙◌, refl, sym}
use Rattle.script_spec.specs.Grammar.{SetRom}
use Rattle.scripts.proofs.Reasons.{rom_kept, name_judged}
use Rattle.scripts.proofs.reading.Reading.validate_rom.Goals as goal

pub returns : goal.returns
returns c = record {
  judged = λ items name is. name_judged _ _ _ _ is refl refl refl refl refl refl
      (c.validate_setup.ensures.judged items (SetRom name) is refl (rom_kept _ _ is
      ∙ sym c.is_some.ensures));
}
