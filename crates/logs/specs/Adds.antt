-- What a call adds to a text.
use Rattle.std.specs.Prelude.{◌≡◌, ℕ, ◌++◌, List, String, string_bytes}
use Rattle.std.specs.Global.{Global}

-- these words stand after what the text had
abbrev pub AddsWords : String Global → String Global → List ℕ → Type 0
AddsWords old new words = string_bytes new ≡ string_bytes old ++ words

-- the whole list begins with this front
pub record IsFront (front whole : List ℕ) : Type 0 where
  pub rest : List ℕ
  pub joined : whole ≡ front ++ rest

-- the text still begins with what it had
abbrev pub KeepsFront : String Global → String Global → Type 0
KeepsFront old new = IsFront (string_bytes old) (string_bytes new)
