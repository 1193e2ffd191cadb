-- The order of priority of the levels.
use Rattle.std.proofs.Common.{◌≡◌, ℕ, length, length-append, length-drop, length-take, arith}
use Rattle.device_spec.specs.Pic.{priority_order}
use Rattle.std.proofs.lemmas.Bool.Decides.{nat_tests}

pub order-length : (lowest : ℕ) → length (priority_order lowest) ≡ 8
order-length lowest = grind (arith, nat_tests, length-append, length-drop, length-take)
