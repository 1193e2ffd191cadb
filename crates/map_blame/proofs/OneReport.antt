-- There is only one report of a list of changes.
use Rattle.board_prelude.proofs.{nat_tests, AllPairs, AllByRecursion, eqb-true, recursion_from_All, MapChange, Setup}
use Rattle.board_prelude.proofs.{registers_after, OneFlatMap}
use Rattle.std.proofs.Common.{◌≡◌, ℕ, suc, ◌<◌, true, List, [], ◌∷◌, map, refl, arith, ◌==◌}
use Rattle.std.proofs.lemmas.List.Folds.{Any-from_list_any}
use Rattle.map_blame.specs.declared.blamed.Blamed.{Blamed}
use Rattle.map_blame.specs.Since.{IsSince}
use Rattle.map_blame.specs.Keep.{is_among, IsKeep}
use Rattle.map_blame.specs.Report.{map_range_of}
use Rattle.map_blame.specs.Laws.{OneReport}

-- ---- numbers that rise

-- each number is below all later ones, by recursion
abbrev Rise : List ℕ → Type 0
Rise [] = Unit {0}
Rise (number ∷ later) = ((other : ℕ) → is_among other later ≡ true → number < other) × Rise later

rise_is : (numbers : List ℕ) → AllPairs (λ one other. one < other) numbers → Rise numbers
rise_is [] rises = tt
rise_is (number ∷ later) rises = (
  (λ other among.
      let place = Any-from_list_any (λ it. it == other) later among in
      let below = rises 0 (suc place.0) place.1 (omega arith) (omega (arith, place.2)) in
      omega (arith, below, place.3, eqb-true place.1 other place.4)),
  rise_is later (λ i j d order below. rises (suc i) (suc j) d (omega (arith, order)) (omega (arith, below))),
)

-- the numbers of one are among those of the other
abbrev Within : (numbers other : List ℕ) → Type 0
Within numbers other = (number : ℕ) → is_among number numbers ≡ true → is_among number other ≡ true

same_numbers : (numbers other : List ℕ) → Rise numbers → Rise other → Within numbers other → Within other numbers →
    numbers ≡ other
same_numbers [] [] rise rise' to from = refl
same_numbers [] (first ∷ later) rise rise' to from = grind (arith, nat_tests, from first)
same_numbers (first ∷ later) [] rise rise' to from = grind (arith, nat_tests, to first)
same_numbers (first ∷ later) (first' ∷ later') rise rise' to from =
    let same : first ≡ first' = grind (arith, nat_tests, to first, from first', rise.0 first', rise'.0 first) in
    let rest = same_numbers later later' rise.1 rise'.1
    (λ number among. grind (arith, nat_tests, to number, rise.0 number))
    (λ number among. grind (arith, nat_tests, from number, rise'.0 number)) in
    rw (same, rest) refl

pub one_keep : (setup : Setup) (changes : List MapChange) (keep other : List ℕ) → IsKeep setup changes keep →
    IsKeep setup changes other → keep ≡ other
one_keep setup changes keep other is is' =
    grind (arith, nat_tests, same_numbers, rise_is, is.each, is.only, is'.each, is'.only)

-- ---- since when

one_since : (setup : Setup) (changes : List MapChange) (blamed other : List Blamed) →
    AllByRecursion (λ one. IsSince setup changes (map_range_of one) one.since) blamed →
    AllByRecursion (λ one. IsSince setup changes (map_range_of one) one.since) other →
    map map_range_of blamed ≡ map map_range_of other → map (λ one. one.since) blamed ≡ map (λ one. one.since) other
one_since setup changes [] [] each each' same = grind (arith, nat_tests)
one_since setup changes (one ∷ later) (one' ∷ later') each each' same =
    grind (arith, nat_tests, one_since setup changes later later' each.1 each'.1)
one_since setup changes _ _ each each' same = grind (arith, nat_tests)

pub one_report : OneFlatMap → OneReport
one_report one_map setup changes blamed blamed' kept kept' is is' =
    let ranges : map map_range_of blamed ≡ map map_range_of blamed' =
    one_map setup (registers_after setup changes) (map map_range_of blamed) (map map_range_of blamed') is.ranges.map
    is'.ranges.map in
    record {
      ranges = ranges;
      since = one_since _ _ _ _ (recursion_from_All (λ one. IsSince setup changes (map_range_of one) one.since) blamed
          is.ranges.since) (recursion_from_All (λ one. IsSince setup changes (map_range_of one) one.since) blamed'
          is'.ranges.since) ranges;
      keep = one_keep _ _ _ _ is.keep is'.keep;
    }
