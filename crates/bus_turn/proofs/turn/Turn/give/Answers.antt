use Rattle.std.proofs.Common.{rules}
use Rattle.bus_turn.proofs.Steps.{gives_back}
use Rattle.bus_turn.proofs.turn.Turn.give.Goals as goal

pub fetch_add-requires : goal.fetch_add-requires
fetch_add-requires g c = (
  search rules,
  search rules,
  gives_back _ _ _ _ _ _ _ _ c.args.held.value (search rules) (search rules) (search rules) (search rules),
)
