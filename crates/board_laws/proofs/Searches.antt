-- A search in a list of which nothing passes the test.
use Rattle.std.proofs.Common.{◌≡◌, Bool, false, List, [], ◌∷◌, None, refl, find, All}
use Rattle.board_prelude.proofs.{All-head, All-tail}

pub find-none : {X : Type 0} (test : X → Bool) (xs : List X) → All (λ it. test it ≡ false) xs → find test xs ≡ None
find-none test [] fail = refl
find-none test (other ∷ later) fail =
    rw (All-head (λ it. test it ≡ false) other later fail)
    (find-none test later (All-tail (λ it. test it ≡ false) other later fail))
