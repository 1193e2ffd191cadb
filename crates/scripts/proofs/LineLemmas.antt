-- A text up to its first line feed, and after it.
use Rattle.board_prelude.proofs.{eqb-true, nat_tests, take_rest, common_steps, All-head, All-tail}
use Rattle.std.proofs.Common.{sym, ◌≡◌, ℕ, ◌+◌, ◌<◌, ◌-◌, ◌≢◌, zero, suc, Bool, true, false, eqb, Some, None, List, []}
use Rattle.std.proofs.Common.{◌∷◌, ◌++◌, length, get_or, take, drop, refl, All, arith}
use Rattle.memchr.specs.Find.{IsFirstByte}
use Rattle.script_spec.specs.Lines.{lines_of}

abbrev pub is_feed : ℕ → Bool
is_feed byte = eqb byte 10

-- no byte of it ends a line
abbrev IsLine : List ℕ → Type 0
IsLine bytes = All (λ byte. is_feed byte ≡ false) bytes

pub line_ended : (line rest : List ℕ) → IsLine line → lines_of (line ++ 10 ∷ rest) ≡ line ∷ lines_of rest
unfolding lines_of
line_ended [] rest h = refl
line_ended (x ∷ line) rest h =
    let first = All-head (λ byte. is_feed byte ≡ false) x line h in
    grind (arith, nat_tests, line_ended line rest (All-tail (λ byte. is_feed byte ≡ false) x line h))

-- with a line feed the first line ends there
lines_at : (bytes : List ℕ) (end : ℕ) → end < length bytes → get_or bytes end 0 ≡ 10 →
    ((k : ℕ) → k < end → get_or bytes k 0 ≢ 10) → lines_of bytes ≡ take end bytes ∷ lines_of (drop (end + 1) bytes)
unfolding lines_of
lines_at [] end inside feed none = absurd (omega arith)
lines_at (x ∷ xs) zero inside feed none = grind (arith, nat_tests)
lines_at (x ∷ xs) (suc end) inside feed none =
    let other : x ≢ 10 = none 0 (omega arith) in
    let rest = lines_at xs end (omega arith) feed (λ k below. none (suc k) (omega arith)) in
    grind (arith, nat_tests)

pub cut_at : (bytes : List ℕ) (end : ℕ) → IsFirstByte is_feed bytes (Some end)
    → lines_of bytes ≡ take end bytes ∷ lines_of (take (length bytes - (end + 1)) (drop (end + 1) bytes))
cut_at bytes end first = grind (arith, nat_tests, common_steps, take_rest, lines_at)

-- with none it is the whole text
alone : (x : ℕ) (line : List ℕ) → ((k : ℕ) → k < length (x ∷ line) → get_or (x ∷ line) k 0 ≢ 10) →
    lines_of (x ∷ line) ≡ (x ∷ line) ∷ []
unfolding lines_of
alone x [] none = let other : x ≢ 10 = none 0 (omega arith) in grind (arith, nat_tests)
alone x (y ∷ line) none =
    let other : x ≢ 10 = none 0 (omega arith) in
    let rest = alone y line (λ k below. none (suc k) (omega arith)) in
    grind (arith, nat_tests)

pub uncut : (bytes : List ℕ) → false ≡ eqb (length bytes) 0 → IsFirstByte is_feed bytes None
    → lines_of bytes ≡ bytes ∷ lines_of []
unfolding lines_of
uncut [] some none = absurd cc
uncut (x ∷ xs) some none =
    alone x xs (λ k below is. none k (omega arith) below (grind (arith, nat_tests, common_steps)))

-- with a line feed at once the first line is empty
pub begun_empty : (bytes : List ℕ) → false ≡ eqb (length bytes) 0 → get_or bytes 0 0 ≡ 10 →
    lines_of bytes ≡ [] ∷ lines_of (take (length bytes - 1) (drop 1 bytes))
begun_empty bytes some feed =
    rw take_rest (lines_at bytes 0 (grind (arith, nat_tests)) feed (λ k below. absurd (omega (arith, below))))

-- no bytes, no lines
pub none_left : (bytes : List ℕ) → true ≡ eqb (length bytes) 0 → lines_of bytes ≡ []
unfolding lines_of
none_left [] none = refl
none_left (x ∷ xs) none = absurd (omega (arith, eqb-true (length (x ∷ xs)) 0 (sym none)))
