use Rattle.std.proofs.Common.{◌≡◌, length, take, flat_map}
use Rattle.phase_threads.proofs.run.statements_in.Given as goal

abbrev pub invariant-loop-statements : goal.invariant-loop-statements
invariant-loop-statements l = l.count ≡ length (flat_map (λ phase. phase.items) (take l.statements-index l.phases))
