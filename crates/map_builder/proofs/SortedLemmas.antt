-- Windows in rising order hold the addresses of those that were sorted, and are no more than there are different ones.
use Rattle.board_prelude.proofs.{common_steps, AllByRecursion, list_any, false≢true, nat_tests, Setup, Bytes}
use Rattle.std.proofs.Common.{◌≡◌, ℕ, ◌+◌, ◌<◌, ◌≤◌, inl, inr, Bool, true, false, List, [], ◌∷◌, ◌++◌, length, refl}
use Rattle.std.proofs.Common.{arith, nat_lt, min, max, filter, Some}
use Rattle.addr_decode.specs.Edges.{edges_of, edges_after, fixed_edges}
use Rattle.addr_decode.specs.MapRegister.{map_register}
use Rattle.map_builder.specs.declared.range.Changed.{Changed}
use Rattle.map_builder.specs.Bounds.{both, bounds}
use Rattle.map_builder.specs.Changed.{is_inside, edges_inside, is_window, count_of, IsOutside, windows_covered, joined}
use Rattle.map_builder.specs.Windows.{with_window, sorted}
use Rattle.map_builder.specs.Sorted.{AreAbove, Rise, rows_in}
use Rattle.map_builder.specs.Laws.{RowsAreFew}
use Rattle.addr_decode.proofs.EdgeCounts.{no_more}
use Rattle.map_builder.proofs.BoundsLemmas.{Outside, Misses, misses_both, Ordered}
use Rattle.board_spec.specs.RegisterTable.{reset_byte, host_bridge}

-- a window goes behind the first of others that rise, before it, or they overlap and become one
with_step : (P : List Changed → Type 0) (window other : Changed) (later : List Changed) →
    (other.hi < window.lo → P (other ∷ with_window window later)) →
    (window.hi < other.lo → P (window ∷ with_window other later)) →
    (window.lo ≤ other.hi → other.lo ≤ window.hi → P (with_window (both other window) later)) →
    P (with_window window (other ∷ later))
unfolding with_window
with_step P window other later behind before overlap = grind (arith, nat_tests)

-- ---- what holds of each of them

-- what holds of two windows that overlap holds of the one that holds both
abbrev Joins : (Changed → Type 0) → Type 0
Joins P =
    (other window : Changed) → window.lo ≤ other.hi → other.lo ≤ window.hi → P other → P window → P (both other window)

module _ (P : Changed → Type 0) (joins : Joins P) where
  each_with : (window : Changed) (windows : List Changed) → P window → AllByRecursion P windows →
      AllByRecursion P (with_window window windows)
  unfolding with_window
  each_with window [] here each = (here, tt)
  each_with window (other ∷ later) here each =
      let rest = λ (it : Changed). each_with it later in grind (arith, nat_tests, each.0, each.1, joins, rest)

  each_sorted : (windows : List Changed) → AllByRecursion P windows → AllByRecursion P (sorted windows)
  unfolding sorted
  each_sorted [] each = tt
  each_sorted (window ∷ later) each = each_with window (sorted later) each.0 (each_sorted later each.1)

above_lower : (low high : ℕ) (windows : List Changed) → low ≤ high → AreAbove high windows → AreAbove low windows
above_lower low high [] order above = tt
above_lower low high (window ∷ later) order above = (omega (arith, above.0), above_lower low high later order above.1)

above_with : (addr : ℕ) (window : Changed) (windows : List Changed) → addr < window.lo → AreAbove addr windows →
    AreAbove addr (with_window window windows)
above_with addr = each_with (λ window. addr < window.lo) (λ other window low high one two. omega arith)

rise_with : (window : Changed) (windows : List Changed) → window.lo ≤ window.hi → Rise windows →
    Rise (with_window window windows)
unfolding with_window
rise_with window [] order rise = (order, tt, tt)
rise_with window (other ∷ later) order rise =
    let rest = λ (it : Changed). rise_with it later in
    let above = λ (addr : ℕ) (it : Changed). above_with addr it later in
    grind (arith, nat_tests, rise.0, rise.1, rise.2, above, above_lower window.hi other.hi later, rest)

pub rise_sorted : (windows : List Changed) → Ordered windows → Rise (sorted windows)
unfolding sorted
rise_sorted [] ordered = tt
rise_sorted (window ∷ later) ordered = rise_with window (sorted later) ordered.0 (rise_sorted later ordered.1)

-- an address beside windows is beside them when they are sorted
pub beside_sorted : (addr : ℕ) (windows : List Changed) → Outside addr windows → Outside addr (sorted windows)
beside_sorted addr = each_sorted (IsOutside addr) (λ other window low high one two. grind (arith, nat_tests))

-- they have the same bounds
bounds_with : (window : Changed) (windows : List Changed) →
    bounds (with_window window windows) ≡ Some (joined window (bounds windows))
unfolding with_window bounds
bounds_with window [] = refl
bounds_with window (other ∷ later) =
    grind (arith, nat_tests, bounds_with window later, bounds_with other later, bounds_with (both other window) later)

pub bounds_sorted : (windows : List Changed) → bounds (sorted windows) ≡ bounds windows
unfolding sorted bounds
bounds_sorted [] = refl
bounds_sorted (window ∷ later) = rw (bounds_with window (sorted later), bounds_sorted later) refl

-- where the interval of two has it, both have
abbrev Parts : (Changed → Type 0) → Type 0
Parts P = (other window : Changed) → P (both other window) → P other × P window

module _ (P : Changed → Type 0) (parts : Parts P) where
  parts_with : (window : Changed) (windows : List Changed) → AllByRecursion P (with_window window windows) →
      P window × AllByRecursion P windows
  unfolding with_window
  parts_with window [] each = each
  parts_with window (other ∷ later) each =
      let rest = λ (it : Changed). parts_with it later in grind (arith, nat_tests, parts other window, rest)

  parts_sorted : (windows : List Changed) → AllByRecursion P (sorted windows) → AllByRecursion P windows
  unfolding sorted
  parts_sorted [] each = tt
  parts_sorted (window ∷ later) each =
      let two = parts_with window (sorted later) each in (two.0, parts_sorted later two.1)

pub outside_sorted : (addr : ℕ) (windows : List Changed) → Outside addr (sorted windows) → Outside addr windows
outside_sorted addr = parts_sorted (IsOutside addr) (λ other window. misses_both other window)

inside_with : (addr : ℕ) (window : Changed) (windows : List Changed) → is_inside (window ∷ windows) addr ≡ false →
    is_inside (with_window window windows) addr ≡ false
unfolding with_window
inside_with addr window [] none = none
inside_with addr window (other ∷ later) none =
    let rest = λ (it : Changed). inside_with addr it later in grind (arith, nat_tests, rest)

inside_sorted : (addr : ℕ) (windows : List Changed) → is_inside windows addr ≡ false →
    is_inside (sorted windows) addr ≡ false
unfolding sorted
inside_sorted addr [] none = refl
inside_sorted addr (window ∷ later) none =
    inside_with addr window (sorted later) (grind (arith, nat_tests, inside_sorted addr later))

-- ---- how many they are

length_with : (window : Changed) (windows : List Changed) → length (with_window window windows) ≤ length windows + 1
unfolding with_window
length_with window [] = omega arith
length_with window (other ∷ later) =
    grind (arith, nat_tests, length_with window later, length_with other later, length_with (both other window) later)

-- a window lies in one of some windows, which do not all miss its first or its last address
abbrev Covers : Changed → List Changed → Type 0
Covers window windows = AllByRecursion (Misses window.lo window.hi) windows → ⊥

covers_above : (addr : ℕ) (window : Changed) (windows : List Changed) → AreAbove addr windows → Covers window windows →
    addr < window.lo
covers_above addr window [] above covers = absurd (covers tt)
covers_above addr window (other ∷ later) above covers =
    grind (arith, nat_tests, above.0, above.1, covers, covers_above addr window later)

covers_sorted : (old : Changed) (windows : List Changed) → Covers old windows → Covers old (sorted windows)
covers_sorted old windows covers each = covers (parts_sorted _ (λ other window. misses_both other window) _ each)

covers_one : (window : Changed) (windows : List Changed) → list_any (is_window window) windows ≡ true →
    Covers window windows
covers_one window [] is each = false≢true is
covers_one window (other ∷ later) is each = grind (arith, nat_tests, covers_one window later, each.0, each.1)

-- ---- windows that were sorted before

with_first : (window : Changed) (windows : List Changed) → window.lo ≤ window.hi → AreAbove window.hi windows →
    Rise windows → with_window window windows ≡ window ∷ windows
unfolding with_window
with_first window [] order above rise = refl
with_first window (other ∷ later) order above rise =
    grind (arith, nat_tests, common_steps, with_step, with_first other later rise.0 rise.1 rise.2)

-- one that lies in another changes nothing
with_covered : (window : Changed) (windows : List Changed) → window.lo ≤ window.hi → Rise windows →
    Covers window windows → with_window window windows ≡ windows
unfolding with_window
with_covered window [] order rise covers = absurd (covers tt)
with_covered window (other ∷ later) order rise covers =
    let missed : Misses window.lo window.hi other → other.hi < window.lo = λ is.
    covers_above other.hi window later rise.1 (λ each. covers (is, each)) in
    with_step (λ made. made ≡ other ∷ later) window other later
    (λ behind. rw (with_covered window later order rise.2 (λ each. covers (inr (omega arith), each))) refl)
    (λ before. absurd (omega (arith, rise.0, missed (inl (omega (arith, rise.0))))))
    (λ start end.
    let low : min other.lo window.lo ≡ other.lo = grind (arith, missed) in
    let high : max other.hi window.hi ≡ other.hi = grind (arith, missed) in
    rw (low, high) (with_first other later rise.0 rise.1 rise.2))

-- one that is there again adds none
length_sorted : (windows : List Changed) → Ordered windows → length (sorted windows) ≤ count_of windows
unfolding sorted count_of
length_sorted [] ordered = omega arith
length_sorted (window ∷ later) ordered =
    let rest = length_sorted later ordered.1 in
    let rise = rise_sorted later ordered.1 in
    let covered = λ (again : list_any (is_window window) later ≡ true).
    with_covered window (sorted later) ordered.0 rise (covers_sorted window later (covers_one window later again)) in
    grind (arith, nat_tests, rest, covered, length_with window (sorted later))

sorted_again : (again windows : List Changed) → Ordered again → Rise (sorted windows) →
    ((window : Changed) → Covers window again → Covers window (sorted windows)) →
    sorted (again ++ windows) ≡ sorted windows
unfolding sorted
sorted_again [] windows ordered rise covered = refl
sorted_again (window ∷ later) windows ordered rise covered =
    rw (sorted_again later windows ordered.1 rise (λ other is. covered other (λ each. is each.1)))
    (with_covered window (sorted windows) ordered.0 rise (covered window (λ each. grind (arith, each.0))))

pub sorted_twice : (windows : List Changed) → Ordered windows → sorted (windows ++ windows) ≡ sorted windows
sorted_twice windows ordered = sorted_again _ _ ordered (rise_sorted _ ordered) (λ window. covers_sorted window windows)

-- ---- how many rows are looked up in them

pub filter_more : (p q : ℕ → Bool) (xs : List ℕ) → ((x : ℕ) → q x ≡ false → p x ≡ false) →
    length (filter p xs) ≤ length (filter q xs)
filter_more p q [] more = omega arith
filter_more p q (x ∷ xs) more = grind (arith, nat_tests, filter_more p q xs more, more x)

none_inside : (addr edge : ℕ) (windows : List Changed) → edge ≤ addr → AreAbove addr windows →
    is_inside windows edge ≡ false
none_inside addr edge [] low above = refl
none_inside addr edge (window ∷ later) low above =
    grind (arith, nat_tests, none_inside addr edge later low above.1, above.0)

-- the edges above the first address of a window lie in it or above it
edges_left : (window : Changed) (windows : List Changed) (edges : List ℕ) → AreAbove window.hi windows →
    length (filter (nat_lt window.lo) edges) + length (filter (is_inside windows) edges)
    ≤ length (filter (is_inside (window ∷ windows)) edges) + length (filter (nat_lt window.hi) edges)
edges_left window windows [] above = omega arith
edges_left window windows (edge ∷ later) above =
    grind (arith, nat_tests, edges_left window windows later above, none_inside window.hi edge windows)

pub rows_rise : (windows : List Changed) (edges : List ℕ) → Rise windows →
    rows_in (λ addr. length (filter (nat_lt addr) edges)) windows
    ≤ length windows + length (filter (is_inside windows) edges)
rows_rise [] edges rise = omega arith
rows_rise (window ∷ later) edges rise =
    omega (arith, rows_rise later edges rise.2, edges_left window later edges rise.1, no_more _ _ edges rise.0)

-- no more than for each different window, and for each edge inside
pub rows_few : (setup : Setup) (bytes : Bytes) (windows : List Changed) → Ordered windows →
    rows_in (edges_after setup bytes) (sorted windows) ≤ count_of windows + edges_inside setup bytes windows
rows_few setup bytes windows ordered =
    let rows = rows_rise (sorted windows) (edges_of setup bytes) (rise_sorted windows ordered) in
    let fewer = filter_more (is_inside (sorted windows)) (is_inside windows) (edges_of setup bytes)
    (λ addr. inside_sorted addr windows) in
    omega (arith, length_sorted windows ordered)

-- ---- the rows that some changes look up, as they compute

pub rows_are_few : RowsAreFew
unfolding map_register windows_covered count_of fixed_edges edges_of reset_byte host_bridge
rows_are_few = record { pam = refl; hole = refl; reset = refl }
