-- What a sink was given of a text.
use Rattle.std.specs.Prelude.{ℕ, ◌≡◌, ◌++◌, List, Option}
use Rattle.std.specs.Io.KnownBytes.{Appends}

-- a sink took all of a text but the rest, where it tells what it took
pub record Sent (before now : Option (List ℕ)) (text rest : List ℕ) : Type 0 where
  pub front : List ℕ
  pub whole : text ≡ front ++ rest
  pub taken : Appends before now front

-- a sink took a front of a text
pub record AppendsFront (before now : Option (List ℕ)) (text : List ℕ) : Type 0 where
  pub rest : List ℕ
  pub sent : Sent before now text rest
