-- The calls that were made, one after another, and the fetches of one file.
use Rattle.std.proofs.Common.{◌≡◌, ◌≢◌, ℕ, ◌≤◌, ◌+◌, List, [], ◌∷◌, ◌++◌, Option, Some, None, refl, sym, ap, ◌∙◌}
use Rattle.std.proofs.Common.{append_assoc, arith, Result, Ok, Err}
use Rattle.board_prelude.proofs.{nat_tests}
use Rattle.board_outside.specs.Outside.{Fetch, Made}
use Rattle.command_files.specs.Calls.{OfCalls, place_after, BroughtBytes, FoundEnd, IsReading, FetchesOnce, ReadsBy}

-- ---- lists of calls

-- no call was made
pub none_made : {Call : Type 0} (told : Option (List Call)) (P : List Call → Type 0) → P [] → OfCalls told told P
none_made told P none = grind (arith, nat_tests)

pub calls_hold : {Call : Type 0} (before now : Option (List Call)) (P Q : List Call → Type 0) →
    ((made : List Call) → P made → Q made) → OfCalls before now P → OfCalls before now Q
calls_hold before now P Q each is = grind (arith, nat_tests)

pub none_told : {A : Type 0} (x : A) → None ≡ Some x → ⊥
none_told x is = absurd cc

-- one call more
pub call_more : {Call : Type 0} (before between now : Option (List Call)) (call : Call) (P Q : List Call → Type 0) →
    ((made : List Call) → P made → Q (call ∷ made)) → OfCalls before between P → Made between now call →
    OfCalls before now Q
call_more before between now call P Q each is made = grind (arith, nat_tests)

-- these calls, and then those
pub record Both {Call : Type 0} (P Q : List Call → Type 0) (made : List Call) : Type 0 where
  pub first : List Call
  pub second : List Call
  pub parts : made ≡ second ++ first
  pub one : P first
  pub two : Q second

pub calls_both : {Call : Type 0} (before between now : Option (List Call)) (P Q : List Call → Type 0) →
    OfCalls before between P → OfCalls between now Q → OfCalls before now (Both P Q)
calls_both None between now P Q one two = tt
calls_both (Some before) None now P Q one two = absurd (none_told (one.made ++ before) one.told)
calls_both (Some before) (Some between) now P Q one two = record {
  made = two.made ++ one.made;
  told = cc (two.told, one.told, append_assoc two.made one.made before);
  holds = record { first = one.made; second = two.made; parts = refl; one = one.holds; two = two.holds };
}

-- ---- a file, read piece after piece

-- the fetches read a file up to this place, and not to its end
pub record ReadTo (name : List ℕ) (limit place : ℕ) (made : List Fetch) : Type 0 where
  pub reading : IsReading name limit made
  pub reached : place_after made ≡ place
  pub goes_on : BroughtBytes made

module _ (before between now : Option (List Fetch)) (name : List ℕ) (limit place : ℕ) (within : place ≤ limit)
    (so_far : OfCalls before between (ReadTo name limit place)) where
  next_fetch :
      (came : Option ℕ) (made : List Fetch) → ReadTo name limit place made →
      IsReading name limit (record { name = name; at = place; came = came } ∷ made)
  next_fetch came made is = (
    record { named = refl; place = sym is.reached; within = omega (arith, is.reached); goes_on = is.goes_on },
    is.reading,
  )

  -- a fetch was made, and failed or not
  pub read_once : {E : Type 0} (result : Result ℕ E) → FetchesOnce between now name place result →
      OfCalls before now (IsReading name limit)
  read_once result is = call_more _ _ _ _ _ _ (next_fetch is.came) so_far is.made

  -- it found the end
  pub read_end : {E : Type 0} (count : ℕ) → count ≡ 0 → FetchesOnce {E = E} between now name place (Ok count) →
      OfCalls before now (λ made. IsReading name limit made × FoundEnd made)
  read_end count none is =
      call_more _ _ _ _ _ (λ made. IsReading name limit made × FoundEnd made)
      (λ made so. (next_fetch is.came _ so, is.count ∙ ap Some none)) so_far is.made

  -- it brought bytes
  pub read_piece : {E : Type 0} (count : ℕ) → count ≢ 0 → FetchesOnce {E = E} between now name place (Ok count) →
      OfCalls before now (ReadTo name limit (place + count))
  read_piece count some is = grind (arith, nat_tests, call_more)

-- the file was not taken
pub reading_failed : {T E : Type 0} (before now : Option (List Fetch)) (result : Result T E) (error : E) (name : List ℕ)
    (limit : ℕ) → result ≡ Err error → OfCalls before now (IsReading name limit) →
    OfCalls before now (ReadsBy result name limit)
reading_failed {T = T} {E = E} before now result error name limit is read =
    rw is (calls_hold _ _ _ _ (λ made so. (so, tt)) read)
