-- Reading one value after another, as a loop does.
use Rattle.std.proofs.Common.{◌≡◌, ℕ, suc, ◌+◌, ◌-◌, ◌<◌, ◌≤◌, List, [], ◌∷◌, ◌++◌, Result, Ok, Err, sym, ◌∙◌}
use Rattle.std.proofs.Common.{append_assoc, arith, append-nil}
use Rattle.byte_fields.specs.Fields.{Reading, then_read, gives}

-- a value, and then those that are read after it
abbrev pub with_later : {A : Type 0} → (A → Reading (List A)) → A → Reading (List A)
with_later later value bytes = then_read (later value bytes) (λ values. gives (value ∷ values))

-- so many values are read one after another. How each is read may depend on those before it
pub record IsLoop {S A : Type 0} (one : S → Reading A) (next : S → A → S) (many : S → ℕ →
    Reading (List A)) : Type 0 where
  pub none : (s : S) (bytes : List ℕ) → many s 0 bytes ≡ Ok ([], bytes)
  pub more : (s : S) (n : ℕ) (bytes : List ℕ) →
      many s (suc n) bytes ≡ then_read (one s bytes) (with_later (λ value. many (next s value) n))

-- what is still read, after these values
abbrev pub with_front : {A : Type 0} → List A → Result (List A × List ℕ) ℕ → Result (List A × List ℕ) ℕ
with_front front read = then_read read (λ later. gives (front ++ later))

pub front_joined : {A : Type 0} (front : List A) (value : A) (read : Result (List A × List ℕ) ℕ) →
    with_front front (then_read read (λ values. gives (value ∷ values))) ≡ with_front (front ++ value ∷ []) read
front_joined front value read = grind (arith, append_assoc)

-- a loop goes on by one value, stops where one is bad, and ends

module _ {S A : Type 0} (one : S → Reading A) (next : S → A → S) (many : S → ℕ → Reading (List A))
    (loop : IsLoop one next many) (front : List A) (s : S) (count i : ℕ) (bytes : List ℕ) where
  pub goes_on : (after : List ℕ) (value : A) (total : Result (List A × List ℕ) ℕ) → i < count →
      one s bytes ≡ Ok (value, after) → with_front front (many s (count - i) bytes) ≡ total →
      with_front (front ++ value ∷ []) (many (next s value) (count - (i + 1)) after) ≡ total
  goes_on after value total below is so_far =
      let left : count - i ≡ suc (count - (i + 1)) = omega arith in
      sym (front_joined front value (many (next s value) (count - (i + 1)) after))
      ∙ rw (left, loop.more s (count - (i + 1)) bytes, is) at so_far

  pub stops : (bad : ℕ) (total : Result (List A × List ℕ) ℕ) → i < count → one s bytes ≡ Err bad →
      with_front front (many s (count - i) bytes) ≡ total → total ≡ Err bad
  stops bad total below is so_far =
      let left : count - i ≡ suc (count - (i + 1)) = omega arith in
      sym (rw (left, loop.more s (count - (i + 1)) bytes, is) at so_far)

  pub is_done : (total : Result (List A × List ℕ) ℕ) → count ≤ i → with_front front (many s (count - i) bytes) ≡ total →
      total ≡ Ok (front, bytes)
  is_done total over so_far =
      let left : count - i ≡ 0 = omega arith in
      sym (rw (left, loop.none s bytes, append-nil front) at so_far)
