use Rattle.std.proofs.Common.{[], ◌∷◌, drop, length, ap, ◌∙◌}
use Rattle.bus_turn.specs.Passes.{seen_of}
use Rattle.bus_turn.proofs.Rows.{drop_front}
use Rattle.bus_turn.proofs.turn.Turn.commit.Goals as goal

pub commit_said-requires-clause-adds : goal.commit_said-requires-clause-adds
commit_said-requires-clause-adds g c = let adds = c.requires.adds in let seen = seen_of c.args.pass.now in
    (adds.0, ap (drop (length seen)) adds.1 ∙ drop_front seen (adds.0 ∷ []), adds.1, adds.2)
