use Rattle.std.proofs.Common.{arith, slice_index_or}
use Rattle.board_prelude.proofs.{common_steps, nat_tests, timer_of, own_level}
use Rattle.board_devices.proofs.DeviceLemmas.{same_levels}
use Rattle.board_devices.proofs.devices.Devices.levels.Goals as goal

pub returns : goal.returns
returns c = grind (arith, nat_tests, common_steps, same_levels, slice_index_or, own_level, timer_of)
