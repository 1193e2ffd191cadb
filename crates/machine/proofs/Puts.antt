-- Bytes that are put behind others, and those of a room before and after.
use Rattle.std.proofs.Common.{◌≡◌, ℕ, ◌+◌, ◌≤◌, List, [], ◌∷◌, ◌++◌, length, take, drop, refl, sym, ap, ◌∙◌}
use Rattle.std.proofs.Common.{append_assoc, arith, length-append, length-take, length-drop, take_at, drop_at, drop-drop}
use Rattle.std.proofs.Common.{take-append-drop}
use Rattle.machine.specs.Room.{IsPutAt}

pub put_length : (at : ℕ) (bytes before after : List ℕ) → IsPutAt at bytes before after → length after ≡ length before
put_length at bytes before after is =
    rw is.put (simp (length-append, length-take, length-drop) (omega (arith, is.fits)))

-- none are put
pub put_none : (at : ℕ) (room : List ℕ) → at ≤ length room → IsPutAt at [] room room
put_none at room within = record {
  fits = omega (arith, within);
  put = sym (take-append-drop at room) ∙ ap (λ (k : ℕ). take at room ++ drop k room) (omega arith);
}

-- some, and then others
pub put_then : (at mid : ℕ) (xs ys all before between after : List ℕ) → IsPutAt at xs before between →
    mid ≡ at + length xs → IsPutAt mid ys between after → all ≡ xs ++ ys → IsPutAt at all before after
put_then at mid xs ys all before between after one is two whole =
    let rest : List ℕ = drop (at + length xs) before in
    let front : List ℕ = take at before ++ xs in
    let both = length-append xs ys in
    let long : length front ≡ mid = omega (arith, length-append (take at before) xs, length-take at before, one.fits) in
    let begins : between ≡ front ++ rest = one.put ∙ sym (append_assoc (take at before) xs rest) in
    let sum : at + (length xs + length ys) ≡ at + length xs + length ys = omega arith in
    record {
      fits = rw whole (omega (arith, both, two.fits, put_length at xs before between one));
      put =
          rw (
            two.put,
            begins,
            take_at front rest mid long,
            ← drop-drop (length ys) mid (front ++ rest),
            drop_at front rest mid long,
            drop-drop (length ys) (at + length xs) before,
            whole,
            both,
            sum,
          ) (simp append_assoc);
    }

-- a byte, then some, and then others
pub put_three : (at start end byte : ℕ) (xs ys all room one two three : List ℕ) → IsPutAt at (byte ∷ []) room one →
    start ≡ at + 1 → IsPutAt start xs one two → end ≡ start + length xs → IsPutAt end ys two three →
    all ≡ byte ∷ (xs ++ ys) → IsPutAt at all room three
put_three at start end byte xs ys all room one two three first starts second ends third whole =
    put_then at end (byte ∷ xs) ys all room two three
    (put_then at start (byte ∷ []) xs (byte ∷ xs) room one two first starts second refl) (omega (arith, starts, ends))
    third whole
