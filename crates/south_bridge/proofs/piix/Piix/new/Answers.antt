use Rattle.std.proofs.Common.{refl}
use Rattle.board_spec.specs.RegisterTable.{isa_bridge, reset_byte}
use Rattle.south_bridge.proofs.PiixLemmas.{registers_at_reset}
use Rattle.south_bridge.proofs.piix.Piix.new.Goals as goal

pub returns : goal.returns
unfolding reset_byte isa_bridge
returns c = record { reset = λ setup. registers_at_reset setup _ _ refl (c.new.ensures.reset setup) }
