-- Which puts a command makes to a sink. A list of calls has the latest first.
use Rattle.std.specs.Prelude.{◌≡◌, ◌≢◌, ◌⊎◌, List, [], ◌∷◌, None, Result, MatchResult}
use Rattle.board_outside.specs.Outside.{Put}
use Rattle.command_files.specs.declared.status.Status.{Status}
use Rattle.command_files.specs.declared.status.Status.TheVariants.{Done, WriteFault, NoMemory}

-- the sink took bytes with each put
abbrev pub AllTook : List Put → Type 0
AllTook [] = Unit {0}
AllTook (latest ∷ before) = (latest.took ≢ None) × AllTook before

-- the sink refused the latest put, and took bytes with each before it
abbrev pub LatestRefused : List Put → Type 0
LatestRefused [] = ⊥
LatestRefused (latest ∷ before) = (latest.took ≡ None) × AllTook before

-- the puts of a command that ended so: none was made after one that was refused, and none before all else was done
abbrev pub ArePutsOf : Status → List Put → Type 0
ArePutsOf Done made = AllTook made
ArePutsOf WriteFault made = LatestRefused made
ArePutsOf NoMemory made = (made ≡ []) ⊎ LatestRefused made
ArePutsOf _ made = made ≡ []

-- the puts of a text. Of one that was put whole the sink took bytes with each; else it refused the latest put, and took
-- bytes with each before it
abbrev pub PutsBy : {T E : Type 0} → Result T E → List Put → Type 0
PutsBy result made = MatchResult result (λ _. AllTook made) (λ _. LatestRefused made)
