use Rattle.std.proofs.Common.{refl}
use Rattle.board_spec.specs.RegisterTable.{host_bridge, reset_byte}
use Rattle.host_bridge.proofs.PamLemmas.{pam_are}
use Rattle.host_bridge.proofs.pam.Pam.new.Goals as goal

pub returns : goal.returns
unfolding reset_byte host_bridge
returns c = record { reset = λ setup. pam_are (reset_byte setup) _ refl }
