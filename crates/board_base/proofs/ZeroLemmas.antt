-- A list of zeros.
use Rattle.std.proofs.Common.{◌≡◌, ℕ, zero, suc, refl, slice_index, replicate}

pub zero_at : (count at : ℕ) → slice_index (replicate count 0) at ≡ 0
zero_at zero at = refl
zero_at (suc count) zero = refl
zero_at (suc count) (suc at) = zero_at count at
