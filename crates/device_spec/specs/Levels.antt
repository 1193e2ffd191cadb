-- Sets of the eight levels of an interrupt controller, IR0 to IR7.
use Rattle.std.specs.Prelude.{ℕ, Bool, false, List, [], ◌∷◌, ◌+◌, ◌*◌, ◌==◌, ◌&&◌, ◌||◌, not, map, if◌then◌else◌}
use Rattle.std.specs.Prelude.{slice_index_or}
use Rattle.board_base.specs.Bits.{is_bit}

-- a set is the list of eight Booleans that say which levels it has
abbrev pub Levels : Type 0
Levels = List Bool

-- the levels, IR0 to IR7
abbrev pub all_levels : List ℕ
all_levels = 0 ∷ 1 ∷ 2 ∷ 3 ∷ 4 ∷ 5 ∷ 6 ∷ 7 ∷ []

-- whether a set has a level
abbrev pub has : Levels → ℕ → Bool
has set level = slice_index_or set level false

-- the set of the levels that pass a test
unfoldable pub levels_where : (ℕ → Bool) → Levels
levels_where test = map test all_levels

-- no level
abbrev pub no_levels : Levels
no_levels = levels_where (λ _. false)

-- a set with one more level
abbrev pub with_level : Levels → ℕ → Levels
with_level set added = levels_where (λ level. (level == added) || has set level)

-- a set without one of its levels
abbrev pub without_level : Levels → ℕ → Levels
without_level set removed = levels_where (λ level. not (level == removed) && has set level)

-- the set whose levels are the bits of a byte that are 1, and its byte
abbrev pub levels_of_byte : ℕ → Levels
levels_of_byte byte = levels_where (is_bit byte)

unfoldable pub byte_of_levels : Levels → ℕ
byte_of_levels [] = 0
byte_of_levels (is_in ∷ set) = (if is_in then 1 else 0) + 2 * byte_of_levels set
