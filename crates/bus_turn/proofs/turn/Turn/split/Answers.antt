use Rattle.std.proofs.Common.{rules}
use Rattle.bus_turn.proofs.Steps.{splits_seat}
use Rattle.bus_turn.proofs.turn.Turn.split.Goals as goal

pub split_seat-requires : goal.split_seat-requires
split_seat-requires g c =
    (search rules, search rules, splits_seat _ _ _ _ _ _ _ c.requires.idle.0 c.requires.first c.requires.few)
