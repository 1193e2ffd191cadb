use Rattle.std.proofs.Common.{rules}
use Rattle.bus_turn.proofs.Steps.{counts}
use Rattle.bus_turn.proofs.turn.Turn.commit_said.Goals as goal

pub fetch_add-requires : goal.fetch_add-requires
fetch_add-requires g c = let adds = c.requires.adds in
    (search rules, search rules, counts _ _ _ _ _ _ _ _ _ adds.0 adds.1 c.requires.holds.0 adds.3)
