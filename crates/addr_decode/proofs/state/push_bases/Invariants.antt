-- The bases so far are written.
use Rattle.std.proofs.Common.{◌≡◌, ◌++◌, take}
use Rattle.addr_decode.specs.State.{bases_bytes}
use Rattle.addr_decode.proofs.state.push_bases.Given as goal

abbrev pub invariant-loop-base : goal.invariant-loop-base
invariant-loop-base l = l.into.items ≡ l.fn.into.items ++ bases_bytes (take l.base-index l.bases)
