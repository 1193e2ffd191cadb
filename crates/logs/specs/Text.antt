-- A text is the bytes of its pieces, one after another.
use Rattle.std.specs.Prelude.{ℕ, List, flat_map, Vec}
use Rattle.std.specs.Global.{Global}

abbrev pub bytes_in : Vec ℕ Global → List ℕ
bytes_in piece = piece.items

abbrev pub joined : List (Vec ℕ Global) → List ℕ
joined pieces = flat_map bytes_in pieces
