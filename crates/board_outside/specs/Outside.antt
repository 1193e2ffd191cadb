-- What a shelf and a sink tell of themselves, and when a fault rose in a call.
use Rattle.std.specs.Prelude.{◌≡◌, ℕ, ◌<◌, ◌⊎◌, List, ◌∷◌, Option, Some, None}
use Rattle.board_outside.specs.Counts.{last_count}

-- a fault rose in a call: the count is greater than before, or stands at the last value of a u64
abbrev pub Rose : ℕ → ℕ → Type 0
Rose before now = (before < now) ⊎ (now ≡ last_count)

-- where the files are told, the file of this name is such; a name that is not there stands for an empty file
abbrev pub OfFile : Option (List ℕ → List ℕ) → List ℕ → (List ℕ → Type 0) → Type 0
OfFile None name P = Unit {0}
OfFile (Some file_of) name P = P (file_of name)

-- one fetch of a shelf: the file and the place asked for, and how many bytes came, none where it failed
pub record Fetch : Type 0 where
  pub name : List ℕ
  pub at : ℕ
  pub came : Option ℕ

-- one put into a sink: how many bytes it took, none where it answered a fault
pub record Put : Type 0 where
  pub took : Option ℕ

-- where the calls are told, the latest first, this one was made
abbrev pub Made : {Call : Type 0} → Option (List Call) → Option (List Call) → Call → Type 0
Made None now call = Unit {0}
Made (Some before) now call = now ≡ Some (call ∷ before)
