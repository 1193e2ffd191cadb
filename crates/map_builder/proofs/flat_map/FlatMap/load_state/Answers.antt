use Rattle.map_builder.proofs.StateFormat.{loads_map}
use Rattle.map_builder.proofs.flat_map.FlatMap.load_state.Goals as goal
use Rattle.std.proofs.Common.{arith}
use Rattle.board_prelude.proofs.{common_steps, nat_tests}

pub returns : goal.returns
returns c = grind (arith, nat_tests, common_steps, loads_map)
