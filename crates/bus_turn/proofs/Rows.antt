-- Lists by place, sums over them, and the entries of one caller.
use Rattle.std.proofs.Common.{◌≡◌, ◌≢◌, ◌⊎◌, inl, inr, ⊎_elim, ℕ, zero, suc, ◌+◌, ◌≤◌, ◌<◌, ◌==◌, List, [], ◌∷◌, ◌++◌}
use Rattle.std.proofs.Common.{length, set, drop, All, sym, refl, ap, ◌∙◌, append_assoc, append-nil, arith, eq-eqb}
use Rattle.std.proofs.lemmas.Bool.Decides.{nat_tests}
use Rattle.std.proofs.lemmas.List.Elements.{filter-append}
use mathlib.Core.List.{IsPrefix}
use mathlib.Core.Option.{some, some-injective, some-ne-none}
use lib.ListN.{get_elem?}
use Rattle.bus_turn.specs.declared.view.View.{View}
use Rattle.bus_turn.specs.Views.{own_by}
use Rattle.bus_turn.specs.Rule.{total, waits, is_gone, joins}

module _ {A : Type 0} where
  pub at_lt : (l : List A) (i : ℕ) (a : A) → get_elem? l i ≡ some a → i < length l
  at_lt [] i a e = absurd (some-ne-none a (sym e))
  at_lt (x ∷ xs) zero a e = omega arith
  at_lt (x ∷ xs) (suc i) a e = omega (arith, at_lt xs i a e)

  pub at_end : (l : List A) (a b : A) (j : ℕ) → get_elem? (l ++ a ∷ []) j ≡ some b
      → (get_elem? l j ≡ some b) ⊎ ((j ≡ length l) × (a ≡ b))
  at_end [] a b zero e = inr (refl, some-injective a b e)
  at_end [] a b (suc j) e = absurd (some-ne-none b (sym e))
  at_end (x ∷ xs) a b zero e = inl e
  at_end (x ∷ xs) a b (suc j) e = ⊎_elim inl (λ t. inr (ap suc t.0, t.1)) (at_end xs a b j e)

  -- two places that are not one may be set in either order
  pub set_apart : (l : List A) (i j : ℕ) (a b : A) → j ≢ i → set (set l i a) j b ≡ set (set l j b) i a
  set_apart [] i j a b other = grind (arith, nat_tests)
  set_apart (x ∷ xs) zero zero a b other = grind (arith, nat_tests)
  set_apart (x ∷ xs) zero (suc j) a b other = grind (arith, nat_tests)
  set_apart (x ∷ xs) (suc i) zero a b other = grind (arith, nat_tests)
  set_apart (x ∷ xs) (suc i) (suc j) a b other = grind (arith, nat_tests, set_apart xs i j a b (λ e. other (cc e)))

  pub prefix_refl : (xs : List A) → IsPrefix xs xs
  prefix_refl xs = ([], append-nil xs)

  pub prefix_trans : (xs ys zs : List A) → IsPrefix xs ys → IsPrefix ys zs → IsPrefix xs zs
  prefix_trans xs ys zs p q = (p.0 ++ q.0, sym (append_assoc xs p.0 q.0) ∙ (ap (λ (w : List A). w ++ q.0) p.1 ∙ q.1))

  pub drop_front : (xs ys : List A) → drop (length xs) (xs ++ ys) ≡ ys
  drop_front [] ys = refl
  drop_front (x ∷ xs) ys = drop_front xs ys

module _ {E : Type 0} (actor : E → ℕ) where
  pub own_more : (n : ℕ) (xs : List E) (e : E) → actor e ≡ n
      → own_by actor n (xs ++ e ∷ []) ≡ own_by actor n xs ++ e ∷ []
  own_more n xs e is = rw (filter-append (λ (x : E). actor x == n) xs (e ∷ []), eq-eqb (actor e) n is) refl

  pub own_none : (n : ℕ) (xs : List E) → All (λ e. actor e < n) xs → own_by actor n xs ≡ []
  own_none n [] h = refl
  own_none n (x ∷ xs) h = let rest = own_none n xs (λ k d low. h (suc k) d (omega (arith, low))) in
      grind (arith, nat_tests, h 0 x (omega arith), rest)

module _ {A : Type 0} (f : A → ℕ) where
  -- one element changes
  pub total_set : (l : List A) (i : ℕ) (a b : A) → get_elem? l i ≡ some a → total f (set l i b) + f a ≡ total f l + f b
  total_set [] i a b e = absurd (some-ne-none a (sym e))
  total_set (x ∷ xs) zero a b e = omega (arith, ap f (some-injective x a e))
  total_set (x ∷ xs) (suc i) a b e = omega (arith, total_set xs i a b e)

  pub total_snoc : (l : List A) (a : A) → total f (l ++ a ∷ []) ≡ total f l + f a
  total_snoc [] a = omega arith
  total_snoc (x ∷ xs) a = omega (arith, total_snoc xs a)

module _ {E F : Type 0} where
  -- no pass both waits and was joined
  pub few_wait : (views : List (View E F)) → total waits views + total is_gone views ≤ length views
  few_wait [] = omega arith
  few_wait (v ∷ views) = grind (arith, few_wait views)

  -- this one does neither
  pub fewer_wait : (views : List (View E F)) (i : ℕ) (v : View E F) → get_elem? views i ≡ some v
      → waits v + is_gone v ≡ 0
      → total waits views + total is_gone views + joins v + 1 ≤ length views + total joins views
  fewer_wait [] i v e neither = absurd (some-ne-none v (sym e))
  fewer_wait (u ∷ views) zero v e neither = let is = some-injective u v e in
      omega (arith, few_wait views, neither, ap waits is, ap is_gone is, ap joins is)
  fewer_wait (u ∷ views) (suc i) v e neither = grind (arith, fewer_wait views i v e neither)
