-- How many entries each processor has.
use Rattle.std.specs.Prelude.{ℕ, ◌≡◌, ◌<◌, ◌==◌, List, length, filter, slice_index_or}

-- how often a processor is among these
abbrev pub times : (actor : ℕ) (order : List ℕ) → ℕ
times actor order = length (filter (λ other. other == actor) order)

abbrev pub AreCountsOf : (counts order : List ℕ) → Type 0
AreCountsOf counts order = (actor : ℕ) → actor < length counts → slice_index_or counts actor 0 ≡ times actor order
