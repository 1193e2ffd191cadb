-- The search for the first level that can be selected.
use Rattle.std.proofs.Common.{◌≡◌, ℕ, ◌<◌, ◌≤◌, Bool, true, false, not, cond, ltb, ◌||◌, ◌&&◌, Option, Some, None, List}
use Rattle.std.proofs.Common.{[], ◌∷◌, ◌++◌, length, get_or, drop, refl, sym, ap, ◌∙◌, inl, inr, ltb-true, arith}
use Rattle.std.proofs.Math.Bool.{or-false, and-false, or-true}
use Rattle.std.proofs.Math.ListN.{drop_of_length-le}
use Rattle.std.proofs.lemmas.Bool.{cases_Bool, agree_below_at, or_from, agree_below}
use Rattle.std.proofs.lemmas.List.Folds.{list_any-append}
use Rattle.std.specs.List.{find, list_any}
use Rattle.device_spec.specs.Pic.{Chip, priority_order, is_blocking, blocks_itself, is_requested, first_selectable}
use Rattle.device_spec.specs.Pic.{request, first_blocking}
use Rattle.std.proofs.lemmas.Bool.Decides.{nat_tests}

-- ---- the search for a level

-- each level of an order is one of the eight
pub priority_order-small : (lowest i : ℕ) → lowest < 8 → i < 8 → get_or (priority_order lowest) i 0 < 8
priority_order-small lowest i hl hi =
    let is_small = λ (lowest i : ℕ). ltb (get_or (priority_order lowest) i 0) 8 in
    let all_small = λ (lowest : ℕ). agree_below (is_small lowest) (λ _. true) 8 in
    let here = agree_below_at all_small (λ _. true) 8 lowest refl hl in
    ltb-true _ 8 (agree_below_at (is_small lowest) (λ _. true) 8 i here hi)

pub first_blocking-is : (chip : Chip) (order : List ℕ) → order ≡ priority_order chip.lowest →
    first_blocking chip ≡ find (is_blocking chip) order
unfolding first_blocking
first_blocking-is chip order is = ap (find (is_blocking chip)) (sym is)

-- ---- the first selectable level

-- the search as the chip makes it: it ends at a level that is requested and does not block itself, and
-- gives up after a level that blocks
unfoldable pub scan : Chip → List ℕ → Option ℕ
scan chip [] = None
scan chip (level ∷ lower) =
    cond (is_requested chip level && not (blocks_itself chip level)) (Some level)
    (cond (is_blocking chip level) None (scan chip lower))

or-end : (test : ℕ → Bool) (xs : List ℕ) (x : ℕ) → list_any test (xs ++ x ∷ []) ≡ (list_any test xs || test x)
or-end test xs x = list_any-append test xs (x ∷ []) ∙ ap (λ b. list_any test xs || b) (or-false (test x))

-- after a level that blocks no level can be selected
blocked : (chip : Chip) (higher order : List ℕ) → list_any (is_blocking chip) higher ≡ true →
    first_selectable chip higher order ≡ None
unfolding first_selectable
blocked chip higher [] h = grind (arith, nat_tests, or-end, and-false)
blocked chip higher (level ∷ lower) h = grind (
  arith,
  nat_tests,
  or-end,
  and-false,
  blocked chip (higher ++ level ∷ [])
      lower (or-end (is_blocking chip) higher level ∙ ap (λ b. b || is_blocking chip level) h),
)

-- after levels that do not block, the first that can be selected is the one that the search finds
unblocked : (chip : Chip) (higher order : List ℕ) → list_any (is_blocking chip) higher ≡ false →
    first_selectable chip higher order ≡ scan chip order
unfolding first_selectable scan
unblocked chip higher [] h = refl
unblocked chip higher (level ∷ lower) h =
    rw h (
    elim (cases_Bool (is_requested chip level && not (blocks_itself chip level))) [
      | inl found ↦ rw found refl
      | inr not_here ↦ rw not_here (
          elim (cases_Bool (is_blocking chip level)) [
            | inl blocking ↦
                rw blocking (blocked chip (higher ++ level ∷ []) lower (or-end (is_blocking chip) higher level
                ∙ ap (λ b. list_any (is_blocking chip) higher || b) blocking ∙ or-true _))
            | inr open_level ↦
                rw open_level (unblocked chip (higher ++ level ∷ []) lower (or-end (is_blocking chip) higher level
                ∙ or_from _ _ h open_level))
          ])
    ])

pub request-is : (chip : Chip) (order : List ℕ) → order ≡ priority_order chip.lowest → request chip ≡ scan chip order
unfolding request
request-is chip order is = unblocked chip [] (priority_order chip.lowest) refl ∙ ap (scan chip) (sym is)

-- past the end nothing is found
pub scan-end : (chip : Chip) (xs : List ℕ) (i : ℕ) → length xs ≤ i → scan chip (drop i xs) ≡ None
unfolding scan
scan-end chip xs i h = rw (drop_of_length-le xs h) refl
