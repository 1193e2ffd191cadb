use Rattle.std.proofs.Common.{arith}
use Rattle.board_prelude.proofs.{nat_tests, common_steps}
use Rattle.script_spec.proofs.ReplyBack.{writes_is, wide_shape}
use Rattle.logs.proofs.read_reply.parse_wide_reply.Goals as goal

pub returns-clause-shape : goal.returns-clause-shape
returns-clause-shape c = grind (arith, nat_tests, common_steps, writes_is, wide_shape)
