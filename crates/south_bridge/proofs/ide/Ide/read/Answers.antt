use Rattle.std.proofs.Common.{◌∙◌, arith}
use Rattle.south_bridge.proofs.IdeLemmas.{ide_byte}
use Rattle.south_bridge.proofs.ide.Ide.read.Goals as goal

pub returns-in_default : goal.returns-in_default
returns-in_default c = record {
  byte = λ bytes is_ide.
      c.header_byte.ensures.byte
      ∙ ide_byte _ _ _ is_ide (record { command = omega arith; timing_low = omega arith; timing_high = omega arith });
}
