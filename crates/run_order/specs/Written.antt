-- A processor's own entries in the history of a run, the newest first. What it did has the oldest first, and so have
-- its calls of the bus: its own entries of the bus's history.
use Rattle.std.specs.Prelude.{ℕ, ◌+◌, List, [], ◌∷◌, length}
use Rattle.board_prelude.specs.{Event, Reply, Saw, Entry}
use Rattle.board_spec.specs.declared.event.Event.TheVariants.{Look as LookAt}
use Rattle.run_order.specs.declared.done.Done.{Done}
use Rattle.run_order.specs.declared.done.Done.TheVariants.{Went, Looked}

-- a processor's next entry, after its own until then
abbrev pub next_own : (actor : ℕ) → List Entry → Event → Reply → Entry
next_own actor own event reply = record { actor = actor; seq = length own + 1; event = event; reply = reply }

-- its own entries with those of what it did: each look with what it saw, each call with the reply that it got
unfoldable pub written : (actor : ℕ) → List Done → (calls own : List Entry) → List Entry
written actor [] calls own = own
written actor (Looked kind addr smm look ∷ done) calls own =
    written actor done calls (next_own actor own (LookAt kind addr smm) (Saw look) ∷ own)
written actor (Went version event ∷ done) [] own = own
written actor (Went version event ∷ done) (call ∷ calls) own =
    written actor done calls (next_own actor own call.event call.reply ∷ own)
