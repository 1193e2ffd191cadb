-- One pin more, and one line set.
use Rattle.board_prelude.proofs.{nat_tests, Routes, drives, line_of_route, is_line_driven}
use Rattle.std.proofs.Common.{arith, zero, suc, ◌≡◌, ℕ, Bool, false, ◌||◌, List, get_or}

-- whether one of the first pins holds the line at 1
unfoldable pub drives_among : ℕ → Routes → List Bool → ℕ → Bool
drives_among zero routes pins line = false
drives_among (suc k) routes pins line =
    drives_among k routes pins line || drives (line_of_route (get_or routes k 0)) (get_or pins k false) line

or_of_four : (a b c d : Bool) → (((a || b) || c) || d) ≡ (a || (b || (c || (d || false))))
or_of_four a b c d = grind (arith, nat_tests)

-- one of all four
pub drives_among-all : (routes : Routes) (pins : List Bool) (line : ℕ) →
    drives_among 4 routes pins line ≡ is_line_driven routes pins line
unfolding drives_among is_line_driven
drives_among-all routes pins line = grind (arith, nat_tests, or_of_four)
