-- Tests that tell the same.
use Rattle.std.proofs.Common.{arith, ◌≡◌, ◌↔◌, Bool, true}

-- tests that hold of the same are equal
pub same_when_true : (one other : Bool) → (one ≡ true) ↔ (other ≡ true) → one ≡ other
same_when_true one other is = grind arith
