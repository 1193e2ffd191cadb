-- A handle from which a board was taken was open, and one from which none was taken was closed.
use Rattle.std.proofs.Common.{◌≡◌, Bool, true, false, Option, Some, None, IsSomeAnd, refl}

pub is_full : {A : Type 0} (full : Bool) (x : A) → (full ≡ false → ◌≡◌ {A = Option A} (Some x) None) → full ≡ true
is_full true x none = refl
is_full false x none = absurd (let never = none refl in cc)

pub is_closed : {A : Type 0} (P : A → Type 0) (full : Bool) (taken : Option A) → (full ≡ true → IsSomeAnd taken P) →
    taken ≡ None → full ≡ false
is_closed P false taken held none = refl
is_closed P true None held none = absurd (held refl)
is_closed P true (Some x) held none = absurd (cc)
