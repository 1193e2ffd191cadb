-- What a seat at the published copies knows: nothing, or whose copies they are.
use Rattle.std.specs.Prelude.{ℕ, ◌≡◌, true, false, List}
use mathlib.Core.Option.{some}
use lib.ListN.{get_elem?}
use Rattle.logbook.specs.Pages.{Book}
use Rattle.map_publish.specs.declared.shown.Shown.{Shown}
use Rattle.map_publish.specs.declared.names.Name.{Name}
use Rattle.map_publish.specs.Lists.{IsMapOfLog}

abbrev pub book_of : Name → Book
book_of given = record { number = given.number; log_name = given.log_name; cells_name = given.cells_name }

-- the name of the copies whose list is of this book
abbrev pub name : Book → Name
name book = record { named = true; number = book.number; log_name = book.log_name; cells_name = book.cells_name }

abbrev pub nobody : Name
nobody = record { named = false; number = 0; log_name = 0; cells_name = 0 }

-- what is published is of this book, and its map is that of its list
pub record IsOfBook (book : Book) (shown : Shown) : Type 0 where
  pub own : shown.front.seen.book ≡ book
  pub map : IsMapOfLog shown.front.seen.log shown.map

-- what is published is of the book that a seat knows, if it knows one
abbrev pub KnowsBook : Shown → Name → Type 0
KnowsBook shown given = given.named ≡ true → IsOfBook (book_of given) shown

-- the rule: each seat is right
abbrev pub AllKnow : Shown → List Name → Type 0
AllKnow shown views = (seat : ℕ) (given : Name) → get_elem? views seat ≡ some given → KnowsBook shown given

-- the seat learns the name of what is published
abbrev pub LearnsName : Name → Shown → Shown → Name → Type 0
LearnsName given before shown now = now ≡ name before.front.seen.book

-- the seat keeps its name, and is right
abbrev pub Stays : Name → Shown → Shown → Name → Type 0
Stays given before shown now = (now ≡ given) × KnowsBook shown given
