use Rattle.std.proofs.Common.{sym, true≢false}
use Rattle.logs.proofs.AskedReading.{placed_is}
use Rattle.logs.proofs.read_asked.if_placed.Goals as goal

pub returns-else-is_placed : goal.returns-else-is_placed
returns-else-is_placed c = record {
  event = λ other is. true≢false (sym (c.if-is_placed.ensures.placed.1 (placed_is c.args.event other is)));
}
