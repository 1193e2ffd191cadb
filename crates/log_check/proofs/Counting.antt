-- The number of a processor's entries.
use Rattle.std.proofs.Common.{ℕ, ◌<◌, ◌≤◌, List, length, Bool, not, ◌==◌, refl, arith, slice_index}
use Rattle.std.proofs.lemmas.List.Filters.{length-filter_both}
use Rattle.board_prelude.proofs.{Entry}
use Rattle.log_check.specs.declared.numbers.Numbers.{Numbers}
use Rattle.log_check.specs.Counted.{AreNumbersOf}

-- no processor has more entries than there are
pub number_below : (numbers : Numbers) (history : List Entry) (actor : ℕ) → actor < 256 → AreNumbersOf numbers history →
    slice_index numbers.last actor ≤ length history
number_below numbers history actor below are =
    let own : Entry → Bool = λ entry. entry.actor == actor in
    let parts = length-filter_both own (λ entry. not (own entry)) (λ entry. refl) history in
    omega (arith, are actor below, parts)
