use Rattle.board_prelude.proofs.{common_steps, nat_tests, length-take, length-drop, take_rest}
use Rattle.std.proofs.Common.{arith}
use Rattle.machine.proofs.Puts.{put_length}
use Rattle.machine.proofs.SavedParts.{written_in_three}
use Rattle.machine.proofs.saved.put_around.Goals as goal

pub put-start-requires : goal.put-start-requires
put-start-requires c = record { room = omega (arith, length-take c.args.dram_at c.args.bytes.now) }

pub put_dram-end-requires-clause-room : goal.put_dram-end-requires-clause-room
put_dram-end-requires-clause-room c = omega (arith, length-take c.args.dram_at c.args.bytes.now)

pub put-requires : goal.put-requires
put-requires c = grind (arith, nat_tests, common_steps, length-take, length-drop, put_length)

pub returns : goal.returns
returns c = record {
  written =
      written_in_three _ _ _ _ _ _ _ _ _ _ c.put-start.ensures.put (omega (arith, c.put-start.ensures.end))
      c.put_dram-end.ensures.put c.put_dram-end.ensures.end c.put.ensures.put
      (take_rest c.args.bytes.now c.args.dram_at);
}
