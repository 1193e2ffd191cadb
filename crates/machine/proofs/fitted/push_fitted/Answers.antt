use Rattle.std.proofs.Common.{◌≡◌, List, ℕ, ◌++◌, Result, Ok, Err, OnOk, append_assoc}
use Rattle.machine.specs.Fitted.{fitting_bytes}
use Rattle.machine.proofs.fitted.push_fitted.Goals as goal

joined : {T E : Type 0} (result : Result T E) (old a b c new w x y z : List ℕ) → a ≡ old ++ w → b ≡ a ++ x →
    c ≡ b ++ y → OnOk result (new ≡ c ++ z) → OnOk result (new ≡ old ++ (w ++ (x ++ (y ++ z))))
joined (Ok value) old a b c new w x y z one two three added = rw (added, three, two, one) (simp append_assoc)
joined (Err fault) old a b c new w x y z one two three added = tt

pub returns-clause-added : goal.returns-clause-added
unfolding fitting_bytes
returns-clause-added c =
    joined _ _ _ _ _ _ _ _ _ _ c.in_ok-push_bytes.ensures.added
    c.in_ok-push_half.ensures.added c.in_ok-push_setup.ensures.added c.push_identities.ensures.added
