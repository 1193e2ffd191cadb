-- Numbers as fields.
use Rattle.std.proofs.Common.{◌≡◌, ℕ, ◌+◌, ◌-◌, ◌^◌, ◌<◌, ◌≤◌, Bool, true, List, [], ◌∷◌, length, Option, Some, None}
use Rattle.std.proofs.Common.{refl, sym, ap, ◌∙◌, arith, nat_le, is_some, unwrap_or, ◌==◌, ◌&&◌, if◌then◌else◌}
use Rattle.std.specs.Int.{Width as Size, byte_len, w8, w16, w32, w64, to_le_bytes, from_le_bytes}
use Rattle.std.proofs.lemmas.Bool.Decides.{nat_tests}
use Rattle.std.proofs.lemmas.Nat.{le_bytes_2, le_bytes_4, le_bytes_8, from_le_bytes-to_le_bytes_2}
use Rattle.std.proofs.lemmas.Nat.{from_le_bytes-to_le_bytes_4, from_le_bytes-to_le_bytes_8}
use Rattle.byte_fields.specs.Fields.{AreBytes, Reading, number, number_where, within, where_true, flag_byte, flag_of}
use Rattle.byte_fields.specs.Fields.{flag_field, flag_where, optional, bound_where, some_where, IsWithin}
use Rattle.byte_fields.proofs.Formats.{IsFormat, format_as, cut_format, ◌then◌, ◌&◌, last_field, fields_format}

-- ---- the sizes

pub record IsWide (size : Size) (limit : ℕ) : Type 0 where
  pub len : (n : ℕ) → length (to_le_bytes size n) ≡ byte_len size
  pub back : (bytes : List ℕ) → length bytes ≡ byte_len size → AreBytes bytes →
      to_le_bytes size (from_le_bytes size bytes) ≡ bytes
  pub again : (n : ℕ) → n < limit → from_le_bytes size (to_le_bytes size n) ≡ n
  pub below : (bytes : List ℕ) → AreBytes bytes → from_le_bytes size bytes < limit

one_byte : (bytes : List ℕ) → length bytes ≡ 1 → AreBytes bytes → to_le_bytes w8 (from_le_bytes w8 bytes) ≡ bytes
one_byte [] long are = absurd (omega (arith, long))
one_byte (byte ∷ []) long are = ap (λ (b : ℕ). b ∷ []) (omega (arith, are 0))
one_byte (byte ∷ next ∷ later) long are = absurd (omega (arith, long))

pub wide8 : IsWide w8 (2 ^ 8)
wide8 = record { len = λ n. refl; back = one_byte; again = λ n below. omega (arith, below); below = λ bytes are. are 0 }

pub wide16 : IsWide w16 (2 ^ 16)
wide16 = grind (arith, nat_tests, le_bytes_2, from_le_bytes-to_le_bytes_2)

pub wide32 : IsWide w32 (2 ^ 32)
wide32 = record {
  len = λ n. refl;
  back = λ bytes long are. le_bytes_4 bytes _ long are refl;
  again = λ n below. from_le_bytes-to_le_bytes_4 n below;
  below = λ bytes are. omega (arith, are 0, are 1, are 2, are 3);
}

pub wide64 : IsWide w64 (2 ^ 64)
wide64 = record {
  len = λ n. refl;
  back = λ bytes long are. le_bytes_8 bytes _ long are refl;
  again = λ n below. from_le_bytes-to_le_bytes_8 n below;
  below = λ bytes are. omega (arith, are 0, are 1, are 2, are 3, are 4, are 5, are 6, are 7);
}

-- ---- a number that says a value

pub number_format : {size : Size} {limit : ℕ} → IsWide size limit → {A : Type 0} {says : ℕ → Option A} (code : A → ℕ)
    (IsGood : A → Type 0) → ((a : A) → IsGood a → (code a < limit) × (says (code a) ≡ Some a)) →
    ((n : ℕ) (a : A) → n < limit → says n ≡ Some a → (n ≡ code a) × IsGood a) → IsFormat (byte_len size)
    (number size says) (λ a. to_le_bytes size (code a)) IsGood
number_format {size} wide {says = says} code IsGood to from =
    cut_format (λ a. to_le_bytes size (code a)) IsGood
    (λ a good. (wide.len (code a), rw (wide.again (code a) (to a good).0) (to a good).1))
    (λ front a long are is.
    let meant = from (from_le_bytes size front) a (wide.below front are) is in
    (sym (wide.back front long are) ∙ ap (to_le_bytes size) meant.0, meant.1))

-- ---- of one byte

as_byte : {A : Type 0} {reads : Reading A} {code : A → ℕ} {IsGood : A → Type 0} →
    IsFormat 1 reads (λ a. to_le_bytes w8 (code a)) IsGood → ((a : A) → IsGood a → code a < 2 ^ 8) →
    IsFormat 1 reads (λ a. code a ∷ []) IsGood
as_byte is small =
    format_as _ _ _ is (omega arith) (λ a good. good) (λ a good. good)
    (λ a good. ap (λ (b : ℕ). b ∷ []) (omega (arith, small a good)))

pub byte_format : {A : Type 0} {says : ℕ → Option A} (code : A → ℕ) (IsGood : A → Type 0) →
    ((a : A) → IsGood a → (code a < 2 ^ 8) × (says (code a) ≡ Some a)) →
    ((n : ℕ) (a : A) → n < 2 ^ 8 → says n ≡ Some a → (n ≡ code a) × IsGood a) → IsFormat 1 (number w8 says)
    (λ a. code a ∷ []) IsGood
byte_format code IsGood to from = as_byte (number_format wide8 code IsGood to from) (λ a good. (to a good).0)

-- a table of numbers and values
abbrev pub Tells : {A : Type 0} → (ℕ → Option A) → (A → ℕ) → Type 0
Tells {A} says code = (n : ℕ) (a : A) → says n ≡ Some a → n ≡ code a

pub no_row : {A : Type 0} (code : A → ℕ) → Tells (λ n. None) code
no_row code n a is = absurd cc

pub some_is : {A : Type 0} (x y : A) → Some x ≡ Some y → x ≡ y
some_is x y is = cc

pub row : {A : Type 0} {later : ℕ → Option A} (code : A → ℕ) (k : ℕ) (x : A) → code x ≡ k → Tells later code →
    Tells (λ n. if n == k then Some x else later n) code
row code k x is others n a told = let later = others n a in grind (arith, nat_tests)

-- ---- flags

-- any value
abbrev pub Any : {A : Type 0} → A → Type 0
Any a = Unit {0}

pub flag_format : IsFormat 1 flag_field (λ flag. flag_byte flag ∷ []) Any
flag_format =
    byte_format {says = flag_of} flag_byte Any (λ flag any. grind arith) (λ n flag below is. grind (arith, nat_tests))

-- ---- numbers that are good

pub where_ok : {A : Type 0} (good : Bool) (x y : A) → where_true good x ≡ Some y → (good ≡ true) × (x ≡ y)
where_ok good x y is = grind arith

abbrev IsGoodNumber : ℕ → (ℕ → Bool) → ℕ → Type 0
IsGoodNumber limit is_good n = (n < limit) × (is_good n ≡ true)

pub where_format : {size : Size} {limit : ℕ} → IsWide size limit → (is_good : ℕ → Bool) → IsFormat (byte_len size)
    (number_where size is_good) (to_le_bytes size) (IsGoodNumber limit is_good)
where_format {limit = limit} wide is_good =
    number_format wide (λ n. n) (IsGoodNumber limit is_good) (λ n good. (good.0, rw good.1 refl))
    (λ n a below is. let told = where_ok (is_good n) n a is in (told.1, rw (← told.1) (below, told.0)))

pub byte_where : (is_good : ℕ → Bool) →
    IsFormat 1 (number_where w8 is_good) (λ n. n ∷ []) (IsGoodNumber (2 ^ 8) is_good)
byte_where is_good = as_byte (where_format wide8 is_good) (λ n good. good.0)

abbrev pub Ranges : (low high n : ℕ) → Type 0
Ranges low high n = (low ≤ n) × (n ≤ high)

pub within_format : {size : Size} {limit : ℕ} → IsWide size limit → (low high : ℕ) → high < limit →
    IsFormat (byte_len size) (within size low high) (to_le_bytes size) (Ranges low high)
within_format {size} {limit} wide low high fits =
    format_as _ _ _ (where_format wide (λ n. nat_le low n && nat_le n high)) (omega arith)
    (λ n is. grind (arith, nat_tests)) (λ n good. grind (arith, nat_tests)) (λ n good. refl)

pub byte_within : (low high : ℕ) → high < 2 ^ 8 → IsFormat 1 (within w8 low high) (λ n. n ∷ []) (Ranges low high)
byte_within low high fits = as_byte (within_format wide8 low high fits) (λ n good. omega arith)

-- numbers from 0
pub number_to : {size : Size} {limit : ℕ} → IsWide size limit → (high : ℕ) → high < limit → IsFormat (byte_len size)
    (within size 0 high) (to_le_bytes size) (λ n. n ≤ high)
number_to wide high fits =
    format_as _ _ _ (within_format wide 0 high fits) (omega arith) (λ n few. (omega arith, few)) (λ n good. good.1)
    (λ n few. refl)

pub byte_to : (high : ℕ) → high < 2 ^ 8 → IsFormat 1 (within w8 0 high) (λ n. n ∷ []) (λ n. n ≤ high)
byte_to high fits = as_byte (number_to wide8 high fits) (λ n good. omega arith)

-- all numbers of a size
pub any_number : {size : Size} {limit : ℕ} → IsWide size limit → 0 < limit → IsFormat (byte_len size)
    (within size 0 (limit - 1)) (to_le_bytes size) (λ n. n < limit)
any_number {limit = limit} wide some =
    format_as _ _ _ (number_to wide (limit - 1) (omega arith)) (omega arith) (λ n few. omega arith)
    (λ n good. omega arith) (λ n few. refl)

pub any_byte : IsFormat 1 (within w8 0 255) (λ n. n ∷ []) (λ n. n < 2 ^ 8)
any_byte = as_byte (any_number wide8 (omega arith)) (λ n small. small)

-- ---- flags that are 1 only where that is allowed

pub bound_where-small : (there : Bool) → bound_where there 255 < 2 ^ 8
bound_where-small there = grind arith

pub flag_where_format : (allowed : Bool) →
    IsFormat 1 (flag_where allowed) (λ flag. flag_byte flag ∷ []) (λ flag. flag_byte flag ≤ flag_byte allowed)
unfolding flag_where
flag_where_format allowed =
    fields_format (last_field (λ n. n == 1) (byte_within 0 (flag_byte allowed) (grind arith)))
    (λ flag few. ((flag_byte flag, (omega arith, few)), grind arith)) (λ t. let few = t.1.1 in grind (arith, nat_tests))

-- ---- numbers that may be absent

some_from :
    (spelled : ℕ → List ℕ) (low high : ℕ) (there : Bool) (n : ℕ) →
    Ranges (bound_where there low) (bound_where there high) n →
    IsWithin low high (some_where there n)
    × (flag_byte (is_some (some_where there n)) ∷ spelled (unwrap_or (some_where there n) 0)
    ≡ flag_byte there ∷ spelled n)
some_from spelled low high there n is = grind arith

pub optional_format : {n limit : ℕ} {number_from : (low high : ℕ) → Reading ℕ} {spelled : ℕ → List ℕ} →
    ((low high : ℕ) → high < limit → IsFormat n (number_from low high) spelled (Ranges low high)) → (low high : ℕ) →
    high < limit → IsFormat (1 + n) (optional number_from low high)
    (λ o. flag_byte (is_some o) ∷ spelled (unwrap_or o 0)) (IsWithin low high)
unfolding optional
optional_format {limit = limit} {spelled = spelled} format low high few =
    fields_format
    (flag_format then λ there any.
    last_field (some_where there) (format (bound_where there low) (bound_where there high) (grind arith)))
    (λ o is. ((is_some o, tt) & (unwrap_or o 0, grind arith), grind arith)) (λ t. some_from spelled _ _ _ _ t.2.1)
