use Rattle.std.proofs.Common.{refl}
use Rattle.board_spec.specs.RegisterTable.{host_bridge, reset_byte}
use Rattle.host_bridge.proofs.smram.Smram.new.Goals as goal

pub returns : goal.returns
unfolding reset_byte host_bridge
returns c = record { reset = λ setup. refl }
