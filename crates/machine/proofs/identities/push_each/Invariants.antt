-- The cards so far are written.
use Rattle.std.proofs.Common.{◌≡◌, ◌++◌, take, flat_map}
use Rattle.machine.specs.Identities.{identity_bytes}
use Rattle.machine.proofs.identities.push_each.Given as goal

abbrev pub invariant-loop-card : goal.invariant-loop-card
invariant-loop-card l = l.into.items ≡ l.fn.into.items ++ flat_map identity_bytes (take l.card-index l.cards)
