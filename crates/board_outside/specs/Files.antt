-- A list of files with their names, as the shelves in memory keep it.
use Rattle.std.specs.Prelude.{ℕ, ◌-◌, min, List, [], length, Option, String, string_bytes, bytes_eq, find, unwrap_or}
use Rattle.std.specs.Option.{option_map}
use Rattle.std.specs.Global.{Vec, Global}

-- the bytes of the first file of this name, if there is one
abbrev pub file_at : List (String Global × Vec ℕ) → List ℕ → Option (List ℕ)
file_at files name = option_map (λ file. file.1.items) (find (λ file. bytes_eq (string_bytes file.0) name) files)

-- the bytes of that file, and none where the name is not there
abbrev pub file_named : List (String Global × Vec ℕ) → List ℕ → List ℕ
file_named files name = unwrap_or (file_at files name) []

-- how much of a file there is from a byte on, and no more than there is room for
abbrev pub piece_length : List ℕ → ℕ → List ℕ → ℕ
piece_length file at room = min (length file - at) (length room)
