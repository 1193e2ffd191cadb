-- Where no look is due.
use Rattle.std.specs.Prelude.{ℕ, ◌≢◌, ◌<◌, List, [], ◌∷◌, slice_index_or}
use Rattle.run_order.specs.declared.done.Done.{Done}
use Rattle.run_order.specs.declared.done.Done.TheVariants.{Went, Looked}

-- what a processor did does not begin with a look of this version or of one before
abbrev pub IsNotDue : (version : ℕ) → List Done → Type 0
IsNotDue version [] = Unit {0}
IsNotDue version (Went after event ∷ done) = Unit {0}
IsNotDue version (Looked kind addr smm look ∷ done) = version < look.version

-- the same of each processor
abbrev pub IsSettled : (version : ℕ) → List (List Done) → Type 0
IsSettled version rests = (k : ℕ) → IsNotDue version (slice_index_or rests k [])

-- and of each but one
abbrev pub IsSettledBut : (version actor : ℕ) → List (List Done) → Type 0
IsSettledBut version actor rests = (k : ℕ) → k ≢ actor → IsNotDue version (slice_index_or rests k [])
