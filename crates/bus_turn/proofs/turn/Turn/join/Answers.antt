use Rattle.std.proofs.Common.{rules}
use Rattle.bus_turn.proofs.Steps.{joins_seat, looks}
use Rattle.bus_turn.proofs.turn.Turn.join.Goals as goal

pub join_seat-requires : goal.join_seat-requires
join_seat-requires g c =
    let idle = c.requires.idle in
    (search rules, search rules, search rules, search rules, joins_seat _ _ _ _ _ _ _ _ _ idle.0.0 idle.1.0)

pub load-requires : goal.load-requires
load-requires g c = (search rules, search rules, looks _ _ _ _ _ _ _ _ (search rules))
