use Rattle.std.proofs.Common.{rules}
use Rattle.bus_turn.proofs.Steps.{ends}
use Rattle.bus_turn.proofs.turn.Turn.end.Goals as goal

pub unwrap-value-requires : goal.unwrap-value-requires
unwrap-value-requires g c = (ends _ _ _ _ _ _ _ _ _ _ c.requires.idle.0 c.requires.first c.requires.joined
    c.close_with-closed.ensures.values.2 c.take.ensures.value).0

pub returns : goal.returns
returns g c = record {
  closes = (ends _ _ _ _ _ _ _ _ _ c.take.result c.requires.idle.0 c.requires.first c.requires.joined
      c.close_with-closed.ensures.values.2 c.take.ensures.value).1 _ (search rules);
}
