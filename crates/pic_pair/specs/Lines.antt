-- The levels of the sixteen interrupt lines, line 0 first.
use Rattle.std.specs.Prelude.{ℕ, ◌+◌, ◌*◌, Bool, List, [], ◌∷◌, map}
use Rattle.board_base.specs.Bits.{is_bit}
use Rattle.device_spec.specs.Levels.{byte_of_levels}
use Rattle.device_spec.specs.Pair.{Pair}

-- the lines, 0 to 15
abbrev pub sixteen : List ℕ
sixteen = 0 ∷ 1 ∷ 2 ∷ 3 ∷ 4 ∷ 5 ∷ 6 ∷ 7 ∷ 8 ∷ 9 ∷ 10 ∷ 11 ∷ 12 ∷ 13 ∷ 14 ∷ 15 ∷ []

-- the levels at which the lines that pass a test, and no others, are at 1
unfoldable pub lines_where : (ℕ → Bool) → List Bool
lines_where test = map test sixteen

-- the levels that are the bits of a number
abbrev pub lines_of : ℕ → List Bool
lines_of bits = lines_where (is_bit bits)

-- the levels that reached the inputs of both chips last, a bit each: those of the master are the low byte
abbrev pub heard_lines : Pair → ℕ
heard_lines pair = byte_of_levels pair.master.inputs + 0x100 * byte_of_levels pair.slave.inputs
