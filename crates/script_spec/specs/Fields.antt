-- A line is cut into fields.
use Rattle.std.specs.Prelude.{ℕ, ◌==◌, List, [], ◌∷◌, Option, Some, None}
use Rattle.std.specs.List.{slice_split}
use Rattle.board_spec.specs.Text.{space}

-- between two fields one space stands
abbrev pub fields_of : List ℕ → List (List ℕ)
fields_of line = slice_split (λ byte. byte == space) line

-- the fields in what is left of a line
abbrev pub fields_in : Option (List ℕ) → List (List ℕ)
fields_in None = []
fields_in (Some rest) = fields_of rest

-- the field that is left, where it is one
abbrev pub only_of : List (List ℕ) → Option (List ℕ)
only_of [] = None
only_of (field ∷ []) = Some field
only_of (_ ∷ _ ∷ _) = None
