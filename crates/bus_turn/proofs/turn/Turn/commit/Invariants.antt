use Rattle.std.proofs.Common.{drop, length}
use Rattle.bus_turn.specs.Passes.{seen_of}
use Rattle.bus_turn.proofs.turn.Turn.commit.Given as goal

abbrev pub ghosts-commit_said : goal.ghosts-commit_said
ghosts-commit_said g a = record { added = drop (length (seen_of a.pass.now)) (g.T.Kept.entries a.held.now.value) }
