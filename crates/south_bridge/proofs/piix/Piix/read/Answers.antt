use Rattle.std.proofs.Common.{arith}
use Rattle.south_bridge.proofs.PiixLemmas.{ide_function_alone}
use Rattle.south_bridge.proofs.piix.Piix.read.Goals as goal

pub returns-in-0 : goal.returns-in-0
returns-in-0 c = record { byte = λ bytes is_piix. rw c.in-0.is (c.isa_bridge_byte.ensures.byte bytes is_piix) }

pub returns-in_default : goal.returns-in_default
returns-in_default c = record {
  byte =
      rw (← c.self.view_is, ide_function_alone c.args.fun c.args.off c.requires.register (omega arith))
      (λ bytes is_piix. c.read.ensures.byte bytes is_piix.ide);
}
