-- What the pair has seen of the lines.
use Rattle.std.specs.Prelude.{◌≡◌, ℕ, Bool, List}
use Rattle.device_spec.specs.Pair.{Pair, pair_after_lines}

-- The levels that the lines have already change nothing when they are given again.
abbrev pub SameLevelsAgain : Type 0
SameLevelsAgain =
    (pair : Pair) (levels : List Bool) (elcr : ℕ)
    → pair_after_lines (pair_after_lines pair levels elcr) levels elcr ≡ pair_after_lines pair levels elcr
