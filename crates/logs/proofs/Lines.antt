-- The history of one entry more.
use Rattle.std.proofs.Common.{◌≡◌, ℕ, ◌+◌, ◌<◌, List, [], ◌∷◌, length, reverse, take, get_or}
use Rattle.board_prelude.proofs.{reverse-append, take_at_read}

-- with the entry at i as the newest, the history is one longer
pub reverse-take_more : {A : Type 0} (entries : List A) (i : ℕ) (default : A) → i < length entries →
    reverse (take (i + 1) entries) ≡ get_or entries i default ∷ reverse (take i entries)
reverse-take_more entries i default inside =
    rw (take_at_read entries i default inside).1 (reverse-append (take i entries) (get_or entries i default ∷ []))
