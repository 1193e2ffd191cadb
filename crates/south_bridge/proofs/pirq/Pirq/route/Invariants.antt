-- The lines so far are those that the pins so far hold at 1.
use Rattle.std.proofs.Common.{◌≡◌, ℕ, ◌<◌, slice_index_or, false}
use Rattle.south_bridge.proofs.RouteLemmas.{drives_among}
use Rattle.south_bridge.proofs.pirq.Pirq.route.Given as goal

abbrev pub invariant-loop-pin : goal.invariant-loop-pin
invariant-loop-pin l =
    (line : ℕ) → line < 16 → slice_index_or l.lines line false ≡ drives_among l.pin l.self-inside.bytes l.pins line
