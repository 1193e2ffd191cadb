-- What `==` says of areas and of rows of areas.
use Rattle.std.proofs.Common.{◌≡◌, Bool, List, Decides, arith}
use Rattle.std.specs.Cmp.Lexicographic.{pointwise}
use Rattle.board_prelude.proofs.{false≢true, eqb-true, nat_tests, Area}
use Rattle.std.proofs.lemmas.Slice.Eq.{slice_eq-Decides}
use Rattle.board_base.specs.contracts.target.AreaPartialEq.TheImpl.{eq-value}

-- a test of two rows
pub rows_eq : (r : Bool) (xs ys : List Area) → r ≡ pointwise eq-value.it xs ys → Decides r (xs ≡ ys)
rows_eq r xs ys is = grind (arith, nat_tests, slice_eq-Decides, eqb-true, false≢true)
