-- What a call says that reads a value whose bytes were saved.
use Rattle.std.specs.Prelude.{ℕ, ◌≡◌, ◌⊎◌, ◌++◌, List, Result, Ok, Err, IfOk}
use Rattle.byte_fields.specs.declared.fault.Bad.{Bad}
use Rattle.byte_fields.specs.declared.fault.Fault.{Fault}
use Rattle.byte_fields.specs.declared.fault.Fault.TheVariants.{NoMemory}
use Rattle.byte_fields.specs.Fields.{Reading, Took, Filled}

-- A value that was read is sound, and the bytes before begin with its own. Bytes that begin with those of a sound value
-- give that value. Where a field is bad, the bytes after begin with the first that is.
pub record Loads {A : Type 0} (reads : Reading A) (spelled : A → List ℕ) (IsSound : A → Type 0) (before after : List ℕ)
    (result : Result A Bad) : Type 0 where
  pub loaded : IfOk result (λ value. IsSound value × (before ≡ spelled value ++ after))
  pub exact : (value : A) (rest : List ℕ) → IsSound value → before ≡ spelled value ++ rest →
      (result ≡ Ok value) × (after ≡ rest)
  pub bad : Took (λ value. value) result after (reads before)

-- The same of a call that may want memory, which says nothing of the bytes.
pub record LoadsWith {A : Type 0} (reads : Reading A) (spelled : A → List ℕ) (IsSound : A → Type 0)
    (before after : List ℕ) (result : Result A Fault) : Type 0 where
  pub loaded : IfOk result (λ value. IsSound value × (before ≡ spelled value ++ after))
  pub exact : (value : A) (rest : List ℕ) → IsSound value → before ≡ spelled value ++ rest →
      (result ≡ Err NoMemory) ⊎ ((result ≡ Ok value) × (after ≡ rest))
  pub bad : Filled (λ value. value) result after (reads before)

-- one value has one spelling, and one spelling is of one value
abbrev pub OneSpelling : {A : Type 0} → (A → List ℕ) → (A → Type 0) → Type 0
OneSpelling {A} spelled IsSound =
    (left right : A) → IsSound left → IsSound right → spelled left ≡ spelled right → left ≡ right
