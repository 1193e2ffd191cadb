-- The list of what was published, as a history that only grows.
use Rattle.std.specs.Prelude.{ℕ, ◌≡◌, ◌==◌, true, List, [], ◌∷◌, ◌++◌, length, MatchBool}
use Rattle.logbook.specs.Pages.{Cell, Step, View, Book, Named}
use Rattle.map_publish.specs.declared.mark.Mark.{Mark}

-- the first word is the length of the list. A book has two words, of which the second stays 0
pub record KeepsLength (cells : List Cell) (log : List Mark) : Type 0 where
  pub words : cells ≡ (length log, true) ∷ (0, true) ∷ []

-- the word of a book that keeps the length
abbrev pub head_of : Book → Named
head_of book = record { tracked = true; key = 0; book = book }

-- the entry was added to all that had been seen, or there was more in the list
abbrev pub AddsStep : Step Mark → View Mark ℕ → ℕ → View Mark ℕ → Type 0
AddsStep step before found now = MatchBool (found == step.old) (now.0 ≡ before.0 ++ step.ask ∷ []) (Unit {0})
