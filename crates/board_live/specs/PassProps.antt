-- That this has at most one proof, so that a type may keep it.
use Rattle.std.specs.Prelude.{ℕ}
use Rattle.std.proofs.Props.{props}
use Rattle.logbook.specs.Pages.{Book}
use Rattle.board_live.specs.Passes.{SharedPass, IsPassOf}

pub IsPassOf-prop : {T : Type 0} (number : ℕ) (book : Book) (pass : SharedPass T) → IsProp (IsPassOf number book pass)
IsPassOf-prop number book pass = hlevel props
