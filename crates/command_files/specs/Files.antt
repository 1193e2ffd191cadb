-- Files that are read in pieces.
use Rattle.std.specs.Prelude.{ℕ, ◌≡◌, List, length, take}

-- what was read is a front of the file
abbrev pub IsFront : List ℕ → List ℕ → Type 0
IsFront bytes file = bytes ≡ take (length bytes) file

-- what is read now is a front of the file where what was read before is one
abbrev pub IsLongerFront : List ℕ → List ℕ → List ℕ → Type 0
IsLongerFront before now file = IsFront before file → IsFront now file
