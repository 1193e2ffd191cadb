use Rattle.std.proofs.Common.{rules, refl}
use Rattle.bus_turn.proofs.Steps.{begins}
use Rattle.bus_turn.proofs.turn.Turn.open.Goals as goal

pub new-requires : goal.new-requires
new-requires g c = begins _ _ _ _ _ c.args.value _ _ _ (search rules) (search rules) (search rules) (search rules) refl
    (search rules)
