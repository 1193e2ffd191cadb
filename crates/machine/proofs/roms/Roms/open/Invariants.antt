use Rattle.std.proofs.Common.{◌≡◌, [], List, ℕ, replicate}
use Rattle.machine.proofs.roms.Roms.open.Given as goal

abbrev pub invariant-loop : goal.invariant-loop
invariant-loop l = ◌≡◌ {A = List (List ℕ)} l.all.items (replicate l.counter [])
