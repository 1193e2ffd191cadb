-- The cards so far are so.
use Rattle.std.proofs.Common.{ℕ, ◌<◌, get_or}
use Rattle.machine.specs.declared.identity.FittedIdentity.{FittedIdentity}
use Rattle.machine.specs.Identities.{IsIdentity}
use Rattle.machine.proofs.identities.are_identities.Given as goal

abbrev pub invariant-loop-card : goal.invariant-loop-card
invariant-loop-card l = (k : ℕ) (d : FittedIdentity) → k < l.card-index → IsIdentity (get_or l.cards k d)
