-- A format: how values are spelled and how they are read, and that each undoes the other.
use Rattle.std.proofs.Common.{◌≡◌, ℕ, zero, suc, ◌+◌, ◌*◌, ◌≤◌, ◌⊎◌, inl, inr, false, cond, List, [], ◌∷◌, ◌++◌, length}
use Rattle.std.proofs.Common.{take, drop, Result, Ok, Err, refl, sym, ap, subst, ◌∙◌, append_assoc, arith, nat_lt}
use Rattle.std.proofs.Common.{flat_map, Option, Some}
use Rattle.std.proofs.lemmas.List.Concat.{flat_map-cons}
use Rattle.std.proofs.lemmas.Bool.{ltb-false, le-ltb}
use Rattle.std.proofs.lemmas.List.{take_at, drop_at, length-append, length-take, take-append-drop, get_or-take}
use Rattle.std.proofs.lemmas.List.{get_or_past, nil_from_length, get_or-drop}
use Rattle.std.proofs.Math.Seq.{drop-append_seam}
use Rattle.std.proofs.Math.Nat.{mul-suc}
use Rattle.byte_fields.specs.Fields.{AreBytes, Reading, then_read, gives, said, plain, ◌>>=◌}
use Rattle.byte_fields.proofs.Loops.{IsLoop}
use Rattle.std.proofs.lemmas.Bool.Decides.{nat_tests}

-- values that are good are spelled in at most so many bytes, and read back whatever follows. What is read was spelled
-- so and is good. A bad field begins after at most so many bytes
pub record IsFormat {A : Type 0} (most : ℕ) (reads : Reading A) (spelled : A → List ℕ) (IsGood : A → Type 0) :
    Type 0 where
  pub back : (value : A) (rest : List ℕ) → IsGood value → reads (spelled value ++ rest) ≡ Ok (value, rest)
  pub taken : (bytes : List ℕ) (value : A) (rest : List ℕ) → AreBytes bytes → reads bytes ≡ Ok (value, rest) →
      (bytes ≡ spelled value ++ rest) × IsGood value
  pub bad : (bytes : List ℕ) (left : ℕ) → AreBytes bytes → reads bytes ≡ Err left →
      (left ≤ length bytes) × (length bytes ≤ left + most)
  pub size : (value : A) → IsGood value → length (spelled value) ≤ most

-- ---- one after another

rest_of : (bytes front rest : List ℕ) → AreBytes bytes → bytes ≡ front ++ rest → AreBytes rest
rest_of bytes front rest are is k =
    rw (← drop-append_seam front rest, ← is, get_or-drop (length front) bytes k 0) (are (length front + k))

-- a result is one alone
pub ok_is : {X : Type 0} (x y : X) → ◌≡◌ {A = Result X ℕ} (Ok x) (Ok y) → x ≡ y
ok_is x y is = cc

pub not_err : {A E : Type 0} (x : A) (y : E) → ◌≡◌ {A = Result A E} (Ok x) (Err y) → ⊥
not_err x y is = absurd cc

pub err_is : {X : Type 0} (x y : ℕ) → ◌≡◌ {A = Result X ℕ} (Err x) (Err y) → x ≡ y
err_is x y is = cc

pub then_ok : {A B : Type 0} (first : Result (A × List ℕ) ℕ) (next : A → Reading B) (value : B) (rest : List ℕ) →
    then_read first next ≡ Ok (value, rest) →
    (got : A × List ℕ) × (first ≡ Ok got) × (next got.0 got.1 ≡ Ok (value, rest))
then_ok (Ok got) next value rest is = (got, refl, is)
then_ok (Err left) next value rest is = absurd cc

pub then_err :
    {A B : Type 0} (first : Result (A × List ℕ) ℕ) (next : A → Reading B) (left : ℕ) → then_read first next ≡ Err left →
    (first ≡ Err left) ⊎ ((got : A × List ℕ) × (first ≡ Ok got) × (next got.0 got.1 ≡ Err left))
then_err (Ok got) next left is = inr (got, refl, is)
then_err {B = B} (Err other) next left is = inl (ap (λ (n : ℕ). Err n) (err_is {X = B × List ℕ} other left is))

-- ---- fields in a row

-- what fields say together, with that each is good, tells the value that they make and how they are spelled
pub record AreFields {T C : Type 0} (most : ℕ) (reads : Reading C) (make : T → C) (spelled : T → List ℕ) :
    Type 0 where
  pub back : (t : T) (rest : List ℕ) → reads (spelled t ++ rest) ≡ Ok (make t, rest)
  pub taken : (bytes : List ℕ) (value : C) (rest : List ℕ) → AreBytes bytes → reads bytes ≡ Ok (value, rest) →
      (t : T) × (bytes ≡ spelled t ++ rest) × (make t ≡ value)
  pub bad : (bytes : List ℕ) (left : ℕ) → AreBytes bytes → reads bytes ≡ Err left →
      (left ≤ length bytes) × (length bytes ≤ left + most)
  pub size : (t : T) → length (spelled t) ≤ most

-- the fields of a value
pub fields_format :
    {T C : Type 0} {most : ℕ} {reads : Reading C} {make : T → C} {spelled : T → List ℕ} {other : C → List ℕ}
    {IsGood : C → Type 0} → AreFields most reads make spelled → ((c : C) → IsGood c → (t : T) × (c ≡ make t)) →
    ((t : T) → IsGood (make t) × (other (make t) ≡ spelled t)) → IsFormat most reads other IsGood
fields_format {most = most} {reads = reads} {other = other} {IsGood = IsGood} fields to from = record {
  back = λ value rest good.
      let t = to value good in
      subst (λ c. reads (other c ++ rest) ≡ Ok (c, rest)) (sym t.1) (rw (from t.0).1 (fields.back t.0 rest));
  taken = λ bytes value rest are is.
      let got = fields.taken bytes value rest are is in
      subst (λ c. (bytes ≡ other c ++ rest) × IsGood c) got.2 (rw (from got.0).1 got.1, (from got.0).0);
  bad = fields.bad;
  size = λ value good.
      let t = to value good in
      subst (λ c. length (other c) ≤ most) (sym t.1) (rw (from t.0).1 (fields.size t.0));
}

-- the last field
pub last_field : {A C : Type 0} {n : ℕ} {first : Reading A} {spelled : A → List ℕ} {IsGood : A → Type 0}
    (make : A → C) → IsFormat n first spelled IsGood → AreFields n (first >>= λ a. gives (make a))
    (λ (t : (a : A) × IsGood a). make t.0) (λ t. spelled t.0)
last_field {first = first} {spelled = spelled} make one = record {
  back = λ t rest. rw (one.back t.0 rest t.1) refl;
  taken = λ bytes value rest are is.
      let got = then_ok (first bytes) (λ a. gives (make a)) value rest is in
      let a = one.taken bytes got.0.0 got.0.1 are got.1 in
      let told : (make got.0.0 ≡ value) × (got.0.1 ≡ rest) = grind (arith, got.2) in
      ((got.0.0, a.1), a.0 ∙ ap (λ (later : List ℕ). spelled got.0.0 ++ later) told.1, told.0);
  bad = λ bytes left are is.
      elim (then_err (first bytes) (λ a. gives (make a)) left is) [
        | inl early ↦ one.bad bytes left are early
        | inr late ↦ absurd (not_err (make late.0.0, late.0.1) left late.2)
      ];
  size = λ t. one.size t.0 t.1;
}

-- all of a value at once
pub whole_field : {C : Type 0} {n : ℕ} {reads : Reading C} {spelled : C → List ℕ} {IsGood : C → Type 0} →
    IsFormat n reads spelled IsGood → AreFields n reads (λ (t : (c : C) × IsGood c). t.0) (λ t. spelled t.0)
whole_field one = record {
  back = λ t rest. one.back t.0 rest t.1;
  taken = λ bytes value rest are is.
      let c = one.taken bytes value rest are is in
      ((value, c.1), c.0, refl);
  bad = one.bad;
  size = λ t. one.size t.0 t.1;
}

-- a value that is good, and what the fields after it say
infixr 5 ◌&◌
abbrev pub ◌&◌ : {A : Type 0} {IsGood T : A → Type 0} (a : (a : A) × IsGood a) → T a.0 → (a : A) × IsGood a × T a
a & later = (a.0, a.1, later)

-- a field, and then those that its value calls for
infixr 20 ◌then◌
pub ◌then◌ : {A C : Type 0} {n m : ℕ} {first : Reading A} {next : A → Reading C} {a_spelled : A → List ℕ}
    {IsGood : A → Type 0} {T : A → Type 0} {make : (a : A) → T a → C} {spelled : (a : A) → T a → List ℕ} →
    IsFormat n first a_spelled IsGood → ((a : A) → IsGood a → AreFields m (next a) (make a) (spelled a)) →
    AreFields (n + m) (first >>= next) (λ (t : (a : A) × IsGood a × T a). make t.0 t.2)
    (λ t. a_spelled t.0 ++ spelled t.0 t.2)
◌then◌ {n = n} {m = m} {first = first} {next = next} {a_spelled = a_spelled} {spelled = spelled} one other =
    record {
      back = λ t rest.
          rw (append_assoc (a_spelled t.0) (spelled t.0 t.2) rest, one.back t.0 (spelled t.0 t.2 ++ rest) t.1)
          ((other t.0 t.1).back t.2 rest);
      taken = λ bytes value rest are is.
          let got = then_ok (first bytes) next value rest is in
          let a = one.taken bytes got.0.0 got.0.1 are got.1 in
          let c = (other got.0.0 a.1).taken got.0.1 value rest (rest_of bytes _ _ are a.0) got.2 in (
            (got.0.0, a.1, c.0),
            a.0 ∙ (ap (λ (later : List ℕ). a_spelled got.0.0 ++ later) c.1
                ∙ sym (append_assoc (a_spelled got.0.0) (spelled got.0.0 c.0) rest)),
            c.2,
          );
      bad = λ bytes left are is.
          elim (then_err (first bytes) next left is) [
            | inl early ↦
                let bound = one.bad bytes left are early in
                (bound.0, omega (arith, bound.1))
            | inr late ↦
                let a = one.taken bytes late.0.0 late.0.1 are late.1 in
                let bound : (left ≤ length late.0.1) × (length late.0.1 ≤ left + m) =
                (other late.0.0 a.1).bad late.0.1 left (rest_of bytes _ _ are a.0) late.2 in
                let whole : length bytes ≡ length (a_spelled late.0.0) + length late.0.1 =
                ap length a.0 ∙ length-append (a_spelled late.0.0) late.0.1 in
                let few = one.size late.0.0 a.1 in
                (omega (arith, bound.0, whole), omega (arith, bound.1, whole, few))
          ];
      size = λ t.
          let whole = length-append (a_spelled t.0) (spelled t.0 t.2) in
          let a = one.size t.0 t.1 in
          let c = (other t.0 t.1).size t.2 in
          omega (arith, whole, a, c);
    }

-- no field
pub done_format : {C : Type 0} (c : C) → IsFormat 0 (gives c) (λ value. []) (λ value. value ≡ c)
done_format c = grind (arith, nat_tests)

-- the same in other words
pub format_as : {A : Type 0} {n : ℕ} (m : ℕ) {reads : Reading A} {spelled : A → List ℕ} (other : A → List ℕ)
    {IsGood : A → Type 0} (IsOther : A → Type 0) → IsFormat n reads spelled IsGood → n ≤ m →
    ((value : A) → IsOther value → IsGood value) → ((value : A) → IsGood value → IsOther value) →
    ((value : A) → IsGood value → spelled value ≡ other value) → IsFormat m reads other IsOther
format_as m {reads = reads} other IsOther is few to from same = record {
  back = λ value rest good.
      subst (λ (bytes : List ℕ). reads (bytes ++ rest) ≡ Ok (value, rest)) (same value (to value good))
      (is.back value rest (to value good));
  taken = λ bytes value rest are read.
      let told = is.taken bytes value rest are read in
      (told.0 ∙ ap (λ (front : List ℕ). front ++ rest) (same value told.1), from value told.1);
  bad = λ bytes left are read.
      let bound = is.bad bytes left are read in
      (bound.0, omega (arith, bound.1, few));
  size = λ value good.
      let bound = is.size value (to value good) in
      omega (arith, bound, few, ap length (same value (to value good)));
}

-- the same reading in other words
pub read_as : {C : Type 0} {n : ℕ} {reads other : Reading C} {spelled : C → List ℕ} {IsGood : C → Type 0} →
    ((bytes : List ℕ) → other bytes ≡ reads bytes) → IsFormat n reads spelled IsGood → IsFormat n other spelled IsGood
read_as {spelled = spelled} same is = record {
  back = λ value rest good. same (spelled value ++ rest) ∙ is.back value rest good;
  taken = λ bytes value rest are read. is.taken bytes value rest are (sym (same bytes) ∙ read);
  bad = λ bytes left are read. is.bad bytes left are (sym (same bytes) ∙ read);
  size = is.size;
}

-- a value made of the one that is read
pub made_format : {A C : Type 0} {n : ℕ} {first : Reading A} {a_spelled : A → List ℕ} {IsGood : A → Type 0}
    (make : A → C) (other : C → List ℕ) → IsFormat n first a_spelled IsGood → ((a : A) → other (make a) ≡ a_spelled a) →
    IsFormat n (first >>= λ a. gives (make a)) other (λ c. (a : A) × IsGood a × (c ≡ make a))
made_format make other one same =
    fields_format (last_field make one) (λ c good. ((good.0, good.1), good.2))
    (λ t. ((t.0, t.1, refl), same t.0))

-- ---- many values

-- each of these is good where it stands
abbrev pub AreGood : {S A : Type 0} → (S → A → S) → (S → A → Type 0) → S → List A → Type 0
AreGood next IsGood s [] = Unit {0}
AreGood next IsGood s (value ∷ later) = IsGood s value × AreGood next IsGood (next s value) later

abbrev pub AreMany : {S A : Type 0} → (S → A → S) → (S → A → Type 0) → S → ℕ → List A → Type 0
AreMany next IsGood s count values = (length values ≡ count) × AreGood next IsGood s values

many_to :
    {S A : Type 0} (next : S → A → S) (IsGood : S → A → Type 0) (s : S) (count : ℕ) (values : List A) →
    AreMany next IsGood s (suc count) values →
    (t : (value : A) × IsGood s value × ((later : List A) × AreMany next IsGood (next s value) count later))
    × (values ≡ t.0 ∷ t.2.0)
many_to next IsGood s count [] are = absurd (omega (arith, are.0))
many_to next IsGood s count (value ∷ later) are = ((value, are.1.0, (later, (omega (arith, are.0), are.1.1))), refl)

pub many_format : {S A : Type 0} {n : ℕ} {one : S → Reading A} {next : S → A → S} {many : S → ℕ → Reading (List A)}
    {spelled : A → List ℕ} {IsGood : S → A → Type 0} → IsLoop one next many →
    ((s : S) → IsFormat n (one s) spelled (IsGood s)) → (s : S) (count : ℕ) → IsFormat (n * count) (many s count)
    (flat_map spelled) (AreMany next IsGood s count)
many_format {n = n} {next = next} {spelled = spelled} {IsGood = IsGood} loop each s zero =
    format_as _ _ _ (read_as (loop.none s) (done_format [])) (omega arith) (λ values are. nil_from_length values are.0)
    (λ values none. rw none (refl, tt)) (λ values none. rw none refl)
many_format {n = n} {next = next} {spelled = spelled} {IsGood = IsGood} loop each s (suc count) =
    format_as _ _ _
    (read_as (loop.more s count)
    (fields_format
    (each s then λ value good. last_field (λ later. value ∷ later) (many_format loop each (next s value) count))
    (many_to next IsGood s count)
    (λ t. ((ap suc t.2.1.0, (t.1, t.2.1.1)), flat_map-cons spelled t.0 t.2.0))))
    (omega (arith, mul-suc n count)) (λ values are. are) (λ values are. are) (λ values are. refl)

-- ---- so many bytes

front_bytes : (n : ℕ) (bytes : List ℕ) → AreBytes bytes → AreBytes (take n bytes)
front_bytes n bytes are k = grind (arith, get_or-take, get_or_past, length-take, are k)

-- bytes of a fixed number that say a value, or are bad
abbrev pub cut_field : {A : Type 0} → (size : ℕ) → (List ℕ → Option A) → Reading A
cut_field size says bytes =
    cond (nat_lt (length bytes) size) (Err (length bytes)) (said (says (take size bytes)) bytes (drop size bytes))

pub cut_format :
    {A : Type 0} {size : ℕ} {says : List ℕ → Option A} (spelled : A → List ℕ) (IsGood : A → Type 0) →
    ((a : A) → IsGood a → (length (spelled a) ≡ size) × (says (spelled a) ≡ Some a)) →
    ((front : List ℕ) (a : A) → length front ≡ size → AreBytes front → says front ≡ Some a →
    (front ≡ spelled a) × IsGood a) → IsFormat size (cut_field size says) spelled IsGood
cut_format {size = size} {says = says} spelled IsGood to from = record {
  back = λ value rest good.
      let told = to value good in
      let long : nat_lt (length (spelled value ++ rest)) size ≡ false =
      le-ltb _ _ (omega (arith, length-append (spelled value) rest, told.0)) in
      rw (long, take_at (spelled value) rest size told.0, drop_at (spelled value) rest size told.0, told.1) refl;
  taken = λ bytes value rest are is.
      let it : (nat_lt (length bytes) size ≡ false) × (says (take size bytes) ≡ Some value) × (drop size bytes ≡ rest) =
      grind arith in
      let long : size ≤ length bytes = ltb-false _ _ it.0 in
      let meant = from (take size bytes) value (omega (arith, length-take size bytes, long))
      (front_bytes size bytes are) it.1 in
      (rw (← meant.0, ← it.2) (sym (take-append-drop size bytes)), meant.1);
  bad = λ bytes left are is.
      let same : length bytes ≡ left = grind arith in
      (omega (arith, same), omega (arith, same));
  size = λ value good. omega (arith, (to value good).0);
}

pub plain_format : (size : ℕ) → IsFormat size (plain size) (λ bytes. bytes) (λ bytes. length bytes ≡ size)
plain_format size =
    cut_format (λ bytes. bytes) (λ bytes. length bytes ≡ size) (λ bytes long. (long, refl))
    (λ front bytes long are is. let same : front ≡ bytes = cc in (same, rw (← same) long))
