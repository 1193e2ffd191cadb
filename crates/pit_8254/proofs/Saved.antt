-- What calls added one after another, joined.
use Rattle.std.proofs.Common.{◌≡◌, List, ℕ, ◌++◌, Result, Ok, Err, OnOk, ap, ◌∙◌, append_assoc}

pub joined : {T E : Type 0} (result : Result T E) (old one new first second : List ℕ) → one ≡ old ++ first →
    OnOk result (new ≡ one ++ second) → OnOk result (new ≡ old ++ (first ++ second))
joined (Ok value) old one new first second is added =
    added ∙ (ap (λ (front : List ℕ). front ++ second) is ∙ append_assoc old first second)
joined (Err bad) old one new first second is added = tt
