use Rattle.std.proofs.Common.{arith}
use Rattle.south_bridge.proofs.PiixLemmas.{ide_function_alone, ide_stored_in}
use Rattle.south_bridge.proofs.piix.Piix.write.Goals as goal

pub returns-in-0 : goal.returns-in-0
returns-in-0 c = record { written = rw c.in-0.is c.write_isa_bridge.ensures.written }

pub returns-in_default : goal.returns-in_default
returns-in_default c = record {
  written =
      rw (← c.self.view_is, ide_function_alone _ _ c.requires.register (omega arith)) (λ setup bytes is_piix.
      ide_stored_in _ _ _ _ _ _ is_piix
      (c.write.ensures.written setup bytes is_piix.ide));
}
