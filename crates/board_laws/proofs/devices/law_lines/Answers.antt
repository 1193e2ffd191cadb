use Rattle.board_laws.proofs.DeviceProofs.{lines_stay}
use Rattle.board_spec.proofs.LineProofs.{first_levels}
use Rattle.std.proofs.Common.{arith}
use Rattle.board_prelude.proofs.{nat_tests, levels_with}
use Rattle.board_laws.proofs.devices.law_lines.Goals as goal

pub returns : goal.returns
unfolding levels_with
returns c = record {
  stay = lines_stay;
  undriven = λ setup history. grind (arith, nat_tests, c.reserved_lines_rest.ensures);
  first = first_levels;
}
