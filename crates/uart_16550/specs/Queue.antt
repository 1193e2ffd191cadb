-- What a read takes from a queue of bytes (PC16550D, 8.1: RBR), and what it leaves.
use Rattle.std.specs.Prelude.{ℕ, List, [], ◌∷◌}

-- the byte that came first, and 0 where there is none
abbrev pub front_of : List ℕ → ℕ
front_of [] = 0
front_of (byte ∷ later) = byte

abbrev pub rest_of : List ℕ → List ℕ
rest_of [] = []
rest_of (byte ∷ later) = later
