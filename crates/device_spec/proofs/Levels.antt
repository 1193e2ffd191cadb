-- Sets of levels, level by level.
use Rattle.std.proofs.Common.{◌≡◌, ℕ, suc, ◌<◌, Bool, false, [], ◌∷◌, length, refl, sym, ◌∙◌, arith, ext_get_or}
use Rattle.device_spec.specs.Levels.{Levels, has, levels_where}

-- a set has the levels that pass its test
pub has-levels_where : (p : ℕ → Bool) (l : ℕ) → l < 8 → has (levels_where p) l ≡ p l
unfolding levels_where
has-levels_where p (suc (suc (suc (suc (suc (suc (suc (suc l)))))))) h = absurd (omega arith)
has-levels_where p _ h = refl

-- tests that agree on the levels give one set
pub levels_where-same : (p q : ℕ → Bool) → ((l : ℕ) → l < 8 → p l ≡ q l) → levels_where p ≡ levels_where q
unfolding levels_where
levels_where-same p q same =
    ext_get_or false (levels_where p) (levels_where q) refl
    (λ l below. has-levels_where p l below ∙ same l below ∙ sym (has-levels_where q l below))

-- a list of eight Booleans is the set of the levels at which it is true
pub levels_where-has : (set : Levels) → length set ≡ 8 → levels_where (λ l. has set l) ≡ set
unfolding levels_where
levels_where-has (a ∷ b ∷ c ∷ d ∷ e ∷ f ∷ g ∷ h ∷ []) all = refl
levels_where-has _ all = absurd (omega arith)
