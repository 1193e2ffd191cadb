-- A store of one byte to a register that keeps its byte.
use Rattle.std.specs.Prelude.{ℕ, ◌≡◌, Option, Some}
use Rattle.board_prelude.specs.{One, MapChange, Store, Bytes}

-- a change stores one byte alone, to a register that holds this byte
abbrev pub IsHeldAt : MapChange → Bytes → ℕ → Type 0
IsHeldAt (Store reg One value) bytes held = held ≡ bytes reg
IsHeldAt _ bytes held = ⊥

-- the same byte before and after
pub record IsSameByte (before later : Option ℕ) : Type 0 where
  pub byte : ℕ
  pub before_is : before ≡ Some byte
  pub later_is : later ≡ Some byte
