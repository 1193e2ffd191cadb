use Rattle.std.proofs.Common.{◌≡◌, ◌==◌, drop, find}
use Rattle.machine.specs.declared.identity.FittedIdentity.{FittedIdentity}
use Rattle.machine.proofs.identity_bytes.identity_at.Given as goal

abbrev pub invariant-loop-card : goal.invariant-loop-card
invariant-loop-card l =
    find (λ (card : FittedIdentity). card.dev == l.dev) (drop l.card-index l.identities)
    ≡ find (λ (card : FittedIdentity). card.dev == l.dev) l.identities
