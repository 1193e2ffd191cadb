-- The history of a run in few bytes, over the bus's history, which has the oldest entry first here.
use Rattle.std.specs.Prelude.{ℕ, ◌≡◌, ◌<◌, List, map, None, slice_index_or}
use Rattle.board_prelude.specs.{Abort, Ack, Bus as AnsweredBy, Saw, Entry}
use Rattle.board_spec.specs.declared.event.Event.TheVariants.{Look as LookAt}
use Rattle.run_order.specs.declared.entry.RunEntry.{RunEntry}
use Rattle.run_order.specs.declared.entry.RunEntry.TheVariants.{Bus, Look}

-- what stands past the end of the bus's history
abbrev pub nowhere : Entry
nowhere = record { actor = 0; seq = 0; event = Ack; reply = AnsweredBy None Abort None }

-- the whole entry
abbrev pub entry_of : List Entry → RunEntry → Entry
entry_of bus (Bus actor seq place) = record (slice_index_or bus place nowhere) { actor = actor; seq = seq }
entry_of bus (Look actor seq kind smm addr look) =
    record { actor = actor; seq = seq; event = LookAt kind addr smm; reply = Saw look }

-- all of them, in the same order
abbrev pub over : List Entry → List RunEntry → List Entry
over bus entries = map (entry_of bus) entries

-- the place of an entry of the bus is below this count
abbrev pub IsPlacedBelow : ℕ → RunEntry → Type 0
IsPlacedBelow count (Bus actor seq place) = place < count
IsPlacedBelow count (Look actor seq kind smm addr look) = Unit {0}

-- these are the processors of entries, in the same order
abbrev pub AreActorsOf : List ℕ → List Entry → Type 0
AreActorsOf actors entries = actors ≡ map (λ entry. entry.actor) entries
