-- Beginnings of one list.
use Rattle.std.proofs.Common.{◌≡◌, ◌≤◌, List, [], ◌∷◌, length, refl, arith}
use mathlib.Core.List.{IsPrefix}

-- of two beginnings of one list the shorter begins the longer
pub prefix_shorter : {A : Type 0} (xs ys zs : List A) → IsPrefix xs zs → IsPrefix ys zs → length xs ≤ length ys
    → IsPrefix xs ys
prefix_shorter [] ys zs p q le = (ys, refl)
prefix_shorter (x ∷ xs) (y ∷ ys) (z ∷ zs) p q le = grind (arith, prefix_shorter xs ys zs)
prefix_shorter (x ∷ xs) _ _ p q le = grind arith

-- a beginning as long as the whole is the whole
pub prefix_whole : {A : Type 0} (xs ys : List A) → IsPrefix xs ys → length ys ≤ length xs → xs ≡ ys
prefix_whole [] [] p le = refl
prefix_whole (x ∷ xs) (y ∷ ys) p le = grind (arith, prefix_whole xs ys)
prefix_whole _ _ p le = grind arith
