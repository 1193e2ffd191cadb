-- One window is sorted.
use Rattle.std.proofs.Common.{◌≡◌, List, [], ◌∷◌, length, arith, refl, slice_index_or}
use Rattle.map_builder.specs.declared.range.Changed.{Changed}
use Rattle.map_builder.specs.Windows.{sorted, with_window}

pub one_sorted : (windows : List Changed) (other : Changed) → length windows ≡ 1 →
    slice_index_or windows 0 other ∷ [] ≡ sorted windows
unfolding sorted with_window
one_sorted [] other one = absurd (omega (arith, one))
one_sorted (window ∷ []) other one = refl
one_sorted (window ∷ second ∷ later) other one = absurd (omega (arith, one))
