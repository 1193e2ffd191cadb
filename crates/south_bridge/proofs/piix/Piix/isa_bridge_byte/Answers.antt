use Rattle.std.proofs.Common.{arith}
use Rattle.south_bridge.proofs.PiixLemmas.{isa_byte}
use Rattle.south_bridge.proofs.piix.Piix.isa_bridge_byte.Goals as goal

pub returns-in_default : goal.returns-in_default
returns-in_default c = record {
  byte = λ bytes is_piix.
      isa_byte bytes c.args.self.now c.args.off _ is_piix
      (record { select = omega arith; routing = c.requires.register }) c.isa_fixed_byte.ensures.byte;
}
