-- What an open file of a folder still gives.
use Rattle.std.specs.Prelude.{ℕ, ◌≡◌, List, drop, Option, Some}

-- where the folder tells its files, what is left to be read is the file of this name from this place on
abbrev pub Gives : Option (List ℕ → List ℕ) → (name : List ℕ) → (at : ℕ) → (left : Option (List ℕ)) → Type 0
Gives files name at left = (file_of : List ℕ → List ℕ) → files ≡ Some file_of → left ≡ Some (drop at (file_of name))
