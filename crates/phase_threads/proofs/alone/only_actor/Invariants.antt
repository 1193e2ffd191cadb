use Rattle.std.proofs.Common.{◌≡◌, take, All}
use Rattle.phase_threads.proofs.alone.only_actor.Given as goal

-- the statements so far are of one processor
abbrev pub invariant-loop-statement : goal.invariant-loop-statement
invariant-loop-statement l = All (λ statement. statement.actor ≡ l.actor) (take l.statement-index l.phase)
