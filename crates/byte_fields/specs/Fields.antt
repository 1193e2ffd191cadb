-- Reading fields from the front of bytes, one after another. Numbers have their low byte first.
use Rattle.std.specs.Prelude.{ℕ, ◌≡◌, ◌<◌, ◌≤◌, ◌==◌, Bool, true, false, nat_le, nat_lt, ◌&&◌, if◌then◌else◌, List, []}
use Rattle.std.specs.Prelude.{◌∷◌, length, take, drop, get_or, Option, Some, None, Result, Ok, Err, bytes_eq}
use Rattle.std.specs.Int.{w8, Width as Size, byte_len, from_le_bytes}
use Rattle.byte_fields.specs.declared.fault.Bad.{Bad}
use Rattle.byte_fields.specs.declared.fault.Fault.{Fault}
use Rattle.byte_fields.specs.declared.fault.Fault.TheVariants as faults

-- every number of a list is a byte
abbrev pub AreBytes : List ℕ → Type 0
AreBytes bytes = (k : ℕ) → get_or bytes k 0 < 256

-- what is read from the front of bytes: a value and the bytes after it, or how many bytes are left from the first
-- bad field on
abbrev pub Reading : Type 0 → Type 0
Reading A = List ℕ → Result (A × List ℕ) ℕ

-- no field
abbrev pub gives : {A : Type 0} → A → Reading A
gives value bytes = Ok (value, bytes)

-- one field, and then those that its value calls for
abbrev pub then_read : {A B : Type 0} → Result (A × List ℕ) ℕ → (A → Reading B) → Result (B × List ℕ) ℕ
then_read (Ok got) next = next got.0 got.1
then_read (Err left) next = Err left

infixl 10 ◌>>=◌
abbrev pub ◌>>=◌ : {A B : Type 0} → Reading A → (A → Reading B) → Reading B
(first >>= next) bytes = then_read (first bytes) next

-- ---- fields

-- a field that says a value, or is bad
abbrev pub said : {A : Type 0} → Option A → (bytes after : List ℕ) → Result (A × List ℕ) ℕ
said None bytes after = Err (length bytes)
said (Some value) bytes after = Ok (value, after)

-- a number of this size that says a value. It is bad where it is not whole, or says none
abbrev pub number : {A : Type 0} → Size → (ℕ → Option A) → Reading A
number size says bytes =
    if nat_lt (length bytes) (byte_len size) then Err (length bytes)
    else said (says (from_le_bytes size (take (byte_len size) bytes))) bytes (drop (byte_len size) bytes)

abbrev pub where_true : {A : Type 0} → Bool → A → Option A
where_true true value = Some value
where_true false value = None

-- a number that is good
abbrev pub number_where : Size → (ℕ → Bool) → Reading ℕ
number_where size is_good = number size (λ n. where_true (is_good n) n)

-- a number from low to high
abbrev pub within : Size → (low high : ℕ) → Reading ℕ
within size low high = number_where size (λ n. nat_le low n && nat_le n high)

-- a flag or a level: 0 or 1
abbrev pub flag_byte : Bool → ℕ
flag_byte false = 0
flag_byte true = 1

abbrev pub flag_of : ℕ → Option Bool
flag_of n = if n == 0 then Some false else if n == 1 then Some true else None

abbrev pub flag_field : Reading Bool
flag_field = number w8 flag_of

-- a flag that is 1 only where that is allowed
unfoldable pub flag_where : (allowed : Bool) → Reading Bool
flag_where allowed = do
  n ← within w8 0 (flag_byte allowed)
  gives (n == 1)

-- a number that may be absent: whether it is there, and then the number, which is 0 where it is absent
abbrev pub bound_where : (there : Bool) → ℕ → ℕ
bound_where there bound = if there then bound else 0

abbrev pub some_where : (there : Bool) → ℕ → Option ℕ
some_where there value = if there then Some value else None

unfoldable pub optional : ((low high : ℕ) → Reading ℕ) → (low high : ℕ) → Reading (Option ℕ)
optional number_from low high = do
  there ← flag_field
  value ← number_from (bound_where there low) (bound_where there high)
  gives (some_where there value)

-- such a number lies within its bounds where it is there
abbrev pub IsWithin : (low high : ℕ) → Option ℕ → Type 0
IsWithin low high None = Unit {0}
IsWithin low high (Some n) = (low ≤ n) × (n ≤ high)

-- so many bytes, whatever they are
abbrev pub plain : (size : ℕ) → Reading (List ℕ)
plain size bytes =
    if nat_lt (length bytes) size then Err (length bytes) else Ok (take size bytes, drop size bytes)

-- these bytes
abbrev pub exactly : List ℕ → Reading (Unit {0})
exactly text bytes =
    if bytes_eq (take (length text) bytes) text then Ok (tt, drop (length text) bytes) else Err (length bytes)

-- as many bytes as these, which differ from them
abbrev pub other_than : List ℕ → Reading (List ℕ)
other_than text bytes =
    if nat_lt (length bytes) (length text) then Err (length bytes)
    else if bytes_eq (take (length text) bytes) text then Err (length bytes)
    else Ok (take (length text) bytes, drop (length text) bytes)

-- nothing more
abbrev pub ended : Reading (Unit {0})
ended [] = Ok (tt, [])
ended (byte ∷ later) = Err (length (byte ∷ later))

-- ---- calls that read

-- what a call gave, seen by `view`, and the bytes that it left are what is read. Where a field is bad they begin with
-- it
abbrev pub Took : {A B : Type 0} → (A → B) → Result A Bad → (after : List ℕ) → Result (B × List ℕ) ℕ → Type 0
Took view (Ok value) after read = read ≡ Ok (view value, after)
Took view (Err bad) after read = read ≡ Err (length after)

-- the same of a call that may want memory
abbrev pub Failed : {A : Type 0} → Fault → (after : List ℕ) → Result (A × List ℕ) ℕ → Type 0
Failed faults.Bad after read = read ≡ Err (length after)
Failed faults.NoMemory after read = Unit {0}

abbrev pub Filled : {A B : Type 0} → (A → B) → Result A Fault → (after : List ℕ) → Result (B × List ℕ) ℕ → Type 0
Filled view (Ok value) after read = read ≡ Ok (view value, after)
Filled view (Err fault) after read = Failed fault after read
