-- The version of the interface.
use Rattle.std.specs.Prelude.{ℕ}

-- that of the records, the numbers and the calls of board.h
abbrev pub interface : ℕ
interface = 8
