-- One chip: its inputs, and that it has no request where no level is requested.
use Rattle.std.proofs.Common.{◌≡◌, ℕ, suc, ◌+◌, ◌≤◌, ◌<◌, Bool, false, not, cond, ◌||◌, ◌&&◌, List, [], ◌∷◌, ◌++◌}
use Rattle.std.proofs.Common.{add-one, drop-cons, length, get_or, drop, Some, None, refl, arith, ap, ◌∙◌}
use Rattle.std.proofs.lemmas.Bool.{cases_lt}
use Rattle.device_spec.proofs.Levels.{levels_where-same, has-levels_where}
use Rattle.device_spec.proofs.Priorities.{priority_order-small, scan, scan-end, request-is}
use Rattle.std.proofs.lemmas.Bool.Decides.{nat_tests}
use Rattle.std.proofs.lemmas.List.{get_or_past}
use Rattle.std.specs.List.{find}
use Rattle.device_spec.specs.Levels.{Levels, has, levels_where, no_levels}
use Rattle.device_spec.specs.Pic.{Chip, pending, latches_after, is_requested, first_selectable, first_blocking}
use Rattle.device_spec.specs.Pic.{blocks_itself, is_blocking, request, priority_order}
use Rattle.pic_pair.proofs.Orders.{order-length}

-- ---- the pending levels

pub either-of : (triggered high latched : Bool) → ((high && triggered) || (latched && not triggered))
    ≡ cond triggered high latched
either-of triggered high latched = grind (arith, nat_tests)

-- the latches with the rises, without the falls
pub latches_are : (latches before now : Levels) →
    levels_where
    (λ l. has (levels_where (λ l. has latches l || has (levels_where (λ l. has now l && not (has before l))) l)) l
    && not (has (levels_where (λ l. has before l && not (has now l))) l)) ≡ latches_after latches before now
latches_are latches before now = grind (arith, nat_tests, levels_where-same, has-levels_where)

-- ---- no request

has-past : (p : ℕ → Bool) (l : ℕ) → 8 ≤ l → has (levels_where p) l ≡ false
unfolding levels_where
has-past p l past = get_or_past (levels_where p) l false past

requested-none : (chip : Chip) → levels_where (is_requested chip) ≡ no_levels → (l : ℕ) → is_requested chip l ≡ false
unfolding pending
requested-none chip none l =
    let one = has-levels_where (is_requested chip) l in
    let other = has-levels_where (λ _. false) l in
    grind (arith, nat_tests, cases_lt l 8, one, other, has-past)

none_selectable : (chip : Chip) (higher order : List ℕ) → ((l : ℕ) → is_requested chip l ≡ false) →
    first_selectable chip higher order ≡ None
unfolding first_selectable
none_selectable chip higher [] none = refl
none_selectable chip higher (level ∷ lower) none =
    rw (none level) (none_selectable chip (higher ++ level ∷ []) lower none)

-- where no level is requested there is no request
pub none_requested : (chip : Chip) → levels_where (is_requested chip) ≡ no_levels → request chip ≡ None
unfolding request
none_requested chip none = none_selectable chip [] (priority_order chip.lowest) (requested-none chip none)

-- the set of the requested levels has those
pub requested_has : (chip : Chip) (set : Levels) (l : ℕ) → l < 8 → set ≡ levels_where (is_requested chip) →
    has set l ≡ is_requested chip l
requested_has chip set l small is = ap (λ (s : Levels). has s l) is ∙ has-levels_where (is_requested chip) l small

-- ---- the levels that block

-- tests that agree find the same element
find-same : (p q : ℕ → Bool) (xs : List ℕ) → ((i : ℕ) → i < length xs → p (get_or xs i 0) ≡ q (get_or xs i 0)) →
    find p xs ≡ find q xs
find-same p q [] same = refl
find-same p q (x ∷ xs) same =
    let here : p x ≡ q x = same 0 (omega arith) in
    let rest : find p xs ≡ find q xs = find-same p q xs (λ i h. same (suc i) (omega (arith, h))) in
    rw (here, rest) refl

-- the first level of those that block is the first that blocks
pub first_is : (chip : Chip) (set : Levels) → chip.lowest < 8 → set ≡ levels_where (is_blocking chip) →
    find (has set) (priority_order chip.lowest) ≡ first_blocking chip
unfolding first_blocking
first_is chip set small is = grind (arith, nat_tests, find-same, order-length, has-levels_where, priority_order-small)

-- ---- the search for a level, which a chip finds at a place of its order

pub request-scan : (chip : Chip) → request chip ≡ scan chip (drop 0 (priority_order chip.lowest))
request-scan chip = request-is chip _ refl

-- the search ends at a level that asks, gives up behind one that blocks, and else goes on
pub scan-step : (chip : Chip) (order : List ℕ) (place : ℕ) → place < length order → scan chip (drop place order)
    ≡ (let level = get_or order place 0 in
    cond (is_requested chip level && not (blocks_itself chip level)) (Some level)
    (cond (is_blocking chip level) None (scan chip (drop (place + 1) order))))
unfolding scan
scan-step chip order place within = rw (add-one, drop-cons order place 0) refl

pub ruleset search_laws = (request-scan, scan-step, scan-end, order-length, nat_tests)
