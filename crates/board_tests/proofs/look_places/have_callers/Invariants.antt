use Rattle.std.proofs.Common.{◌<◌, All, length, take}
use Rattle.board_tests.proofs.look_places.have_callers.Given as goal

abbrev pub invariant-loop-i : goal.invariant-loop-i
invariant-loop-i g l = All (λ actor. actor < length l.works.items) (take l.i (g.A.Actors.actors l.actors))
