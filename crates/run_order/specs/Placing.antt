-- Where the looks of a phase stand in the history of a run. Histories have the newest entry first; what the processors
-- did, and what the bus's history gained in the phase, has the oldest first.
use Rattle.std.specs.Prelude.{ℕ, ◌+◌, ◌==◌, nat_le, Bool, true, false, if◌then◌else◌, List, [], ◌∷◌, map}
use Rattle.board_prelude.specs.{Event, Saw, Entry, next_entry}
use Rattle.board_spec.specs.declared.event.Event.TheVariants.{Look as LookAt}
use Rattle.run_order.specs.declared.done.Done.{Done}
use Rattle.run_order.specs.declared.done.Done.TheVariants.{Went, Looked}

abbrev pub is_look : Event → Bool
is_look (LookAt kind addr smm) = true
is_look _ = false

-- the statement that was done
abbrev pub event_of : Done → Event
event_of (Went version event) = event
event_of (Looked kind addr smm look) = LookAt kind addr smm

-- the looks that come first in what a processor did enter a history, in their order, as far as they are of this version
-- or before
unfoldable pub with_looks : (version actor : ℕ) → List Done → List Entry → List Entry
with_looks version actor [] history = history
with_looks version actor (Went after event ∷ done) history = history
with_looks version actor (Looked kind addr smm look ∷ done) history =
    if nat_le look.version version
    then with_looks version actor done (next_entry history actor (LookAt kind addr smm) (Saw look) ∷ history)
    else history

-- and what is left of it then
unfoldable pub left_after : (version : ℕ) → List Done → List Done
left_after version [] = []
left_after version (Went after event ∷ done) = Went after event ∷ done
left_after version (Looked kind addr smm look ∷ done) =
    if nat_le look.version version then left_after version done else Looked kind addr smm look ∷ done

-- the same of each processor from `first` on, in rising order
unfoldable pub with_all_looks : (version first : ℕ) → List (List Done) → List Entry → List Entry
with_all_looks version first [] history = history
with_all_looks version first (done ∷ rests) history =
    with_all_looks version (first + 1) rests (with_looks version first done history)

abbrev pub all_left : (version : ℕ) → List (List Done) → List (List Done)
all_left version rests = map (left_after version) rests

-- what a processor did, of the lists of the processors from `first` on
unfoldable pub done_by : (first actor : ℕ) → List (List Done) → List Done
done_by first actor [] = []
done_by first actor (done ∷ rests) = if actor == first then done else done_by (first + 1) actor rests

abbrev pub without_first : List Done → List Done
without_first [] = []
without_first (first ∷ done) = done

-- the same lists without what a processor did first
unfoldable pub passed : (first actor : ℕ) → List (List Done) → List (List Done)
passed first actor [] = []
passed first actor (done ∷ rests) =
    if actor == first then without_first done ∷ rests else done ∷ passed (first + 1) actor rests

-- the version after a processor's next statement, as it noted it
abbrev pub noted : (version : ℕ) → List Done → ℕ
noted version (Went after event ∷ done) = after
noted version _ = version

-- the history with the entries that the bus's history gained in a phase, and with the looks of all processors: before
-- each entry of the bus, and after the last, the looks of the versions until then
unfoldable pub placed : (version : ℕ) → List Entry → List (List Done) → List Entry → List Entry
placed version [] rests history = with_all_looks version 0 rests history
placed version (entry ∷ later) rests history =
    let before = with_all_looks version 0 rests history in
    let left = all_left version rests in
    placed (noted version (done_by 0 entry.actor left)) later (passed 0 entry.actor left)
    (next_entry before entry.actor entry.event entry.reply ∷ before)
