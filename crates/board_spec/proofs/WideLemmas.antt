-- The bytes of a list after a value was written from a place on.
use Rattle.std.proofs.lemmas.Bool.Decides.{nat_tests}
use Rattle.std.proofs.lemmas.List.{append-nil, get_or_append_left, get_or-append_right, get_or-take, get_or-drop}
use Rattle.std.proofs.lemmas.List.{length-take-le, drop-drop, drop_all, take_rest}
use Rattle.std.proofs.Common.{◌≡◌, ℕ, suc, ◌+◌, ◌-◌, ◌/◌, ◌%◌, ◌<◌, ◌≤◌, ◌&&◌, List, [], ◌∷◌, ◌++◌, length, get_or}
use Rattle.std.proofs.Common.{take, drop, ◌∙◌, refl, ap, arith, length-drop, nat_le, nat_lt, if◌then◌else◌, slice_index}
use borrow.Rule.Slice.PartMut.{put_mid, post_of}
use Rattle.board_spec.specs.Bits.{byte}

-- the bytes of a list after those of a value were put from a place on
abbrev pub put_byte : (old : List ℕ) → (at count value k : ℕ) → ℕ
put_byte old at count value k = if nat_le at k && nat_lt k (at + count) then byte value (k - at) else slice_index old k

put_part : (xs bs : List ℕ) (at count : ℕ) → at + count ≤ length xs →
    put_mid at (length xs - at) xs (bs ++ drop count (drop at xs)) ≡ take at xs ++ (bs ++ drop (at + count) xs)
put_part xs bs at count fits =
    let none : post_of at (length xs - at) xs ≡ [] =
    drop_all (length xs - at) (drop at xs) (omega (arith, length-drop at xs)) in
    rw (none, append-nil (bs ++ drop count (drop at xs)), drop-drop count at xs) refl

put_bytes : (xs bs : List ℕ) (at count value k : ℕ) → at + count ≤ length xs → length bs ≡ count →
    ((j : ℕ) → j < count → get_or bs j 0 ≡ byte value j) →
    get_or (take at xs ++ (bs ++ drop (at + count) xs)) k 0 ≡ put_byte xs at count value k
put_bytes xs bs at count value k fits long each =
    let front : length (take at xs) ≡ at = length-take-le at xs (omega arith) in
    grind (arith, nat_tests, get_or_append_left, get_or-append_right, get_or-take, get_or-drop, each)

put_word : (xs buf bs : List ℕ) (at count value k : ℕ) → at + count ≤ length xs → length bs ≡ count →
    ((j : ℕ) → j < count → get_or bs j 0 ≡ byte value j) → buf ≡ bs ++ drop count (take (length xs - at) (drop at xs)) →
    slice_index (put_mid at (length xs - at) xs buf) k ≡ put_byte xs at count value k
put_word xs buf bs at count value k fits long each is =
    let whole : buf ≡ bs ++ drop count (drop at xs) = is ∙ ap (λ rest. bs ++ drop count rest) (take_rest xs at) in
    ap (λ part. slice_index (put_mid at (length xs - at) xs part) k) whole
    ∙ ap (λ bytes. slice_index bytes k) (put_part xs bs at count fits)
    ∙ put_bytes xs bs at count value k fits long each

pub put_two : (xs buf : List ℕ) (at value k : ℕ) → at + 2 ≤ length xs →
    buf ≡ value % 256 ∷ (value / 256 % 256) ∷ drop 2 (take (length xs - at) (drop at xs)) →
    slice_index (put_mid at (length xs - at) xs buf) k ≡ put_byte xs at 2 value k
put_two xs buf at value k fits is =
    put_word xs buf (value % 256 ∷ (value / 256 % 256) ∷ []) at 2 value k fits refl (each value) is
  where
    each : (value j : ℕ) → j < 2 → get_or (value % 256 ∷ (value / 256 % 256) ∷ []) j 0 ≡ byte value j
    each value (suc (suc j)) below = absurd (omega arith)
    each value _ below = omega arith

pub put_four :
    (xs buf : List ℕ) (at value k : ℕ) → at + 4 ≤ length xs →
    buf ≡ value % 256 ∷ (value / 256 % 256) ∷ (value / 65536 % 256) ∷ (value / 16777216 % 256) ∷ drop 4
    (take (length xs - at) (drop at xs)) →
    slice_index (put_mid at (length xs - at) xs buf) k ≡ put_byte xs at 4 value k
put_four xs buf at value k fits is =
    put_word xs buf (value % 256 ∷ (value / 256 % 256) ∷ (value / 65536 % 256) ∷ (value / 16777216 % 256) ∷ []) at 4
    value k fits refl (each value) is
  where
    each : (value j : ℕ) → j < 4 →
        get_or (value % 256 ∷ (value / 256 % 256) ∷ (value / 65536 % 256) ∷ (value / 16777216 % 256) ∷ []) j 0
        ≡ byte value j
    each value (suc (suc (suc (suc j)))) below = absurd (omega arith)
    each value _ below = omega arith
