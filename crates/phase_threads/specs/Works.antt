-- What a processor did in a phase. Histories and lists of map writes have the newest first, and what it did the oldest.
use Rattle.std.specs.Prelude.{ℕ, ◌≡◌, ◌++◌, Bool, true, false, List, ◌∷◌, length, map, reverse}
use Rattle.board_prelude.specs.{Event, Reply, Saw, Entry, MapChange, Setup, entries_by}
use Rattle.run_order.specs.declared.done.Done.{Done}
use Rattle.run_order.specs.declared.done.Done.TheVariants.{Went, Looked}
use Rattle.run_order.specs.Placing.{event_of}
use Rattle.run_order.specs.Room.{looks_in}
use Rattle.run_order.specs.Trace.{IsDone}
use Rattle.run_order.specs.Written.{written}
use Rattle.run_log.specs.Lines.{lines_of}
use Rattle.phase_threads.specs.declared.worker.Work.{Work}

-- the lines that a worker has written, the first line first, and how many
abbrev pub Page : Type 0
Page = List (List ℕ) × ℕ

abbrev pub page : Work → Page
page work = (work.lines, work.asked)

-- those of entries, the newest of which comes first here
abbrev pub page_of : List Entry → Page
page_of own = (lines_of (reverse own), length own)

-- a statement got this reply, and was done so; the processor's own entries of the bus's history were `was`, and are
-- `now`
abbrev pub IsTold : Event → Reply → Done → (was now : List Entry) → Type 0
IsTold event reply (Looked kind addr smm look) was now = (reply ≡ Saw look) × (now ≡ was)
IsTold event reply (Went version said) was now =
    (call : Entry) × (call.event ≡ event) × (call.reply ≡ reply) × (now ≡ call ∷ was)

-- where looks are to be placed, what was done is kept; else none of it is a look
abbrev pub IsKept : Bool → (kept done : List Done) → Type 0
IsKept true kept done = kept ≡ done
IsKept false kept done = (looks_in kept ≡ 0) × (looks_in done ≡ 0)

-- a worker did statements of its processor's with these events: they led from the history `opened` to having seen
-- `seen` and knowing `known`. It had written the lines of `own`, and has written those of `told`
pub record HasDone (setup : Setup) (actor : ℕ) (opened : List Entry) (events : List Event) (own : List Entry)
    (keeps : Bool) (work : Work) (seen : List Entry) (known : List MapChange) : Type 0 where
  pub done : List Done
  pub trace : IsDone setup actor opened (reverse done) seen known
  pub said : map event_of done ≡ events
  pub calls : List Entry
  pub called : entries_by actor seen ≡ reverse calls ++ entries_by actor opened
  pub told : List Entry
  pub adds :
      (more : List Done) (later : List Entry) →
      written actor (done ++ more) (calls ++ later) own ≡ written actor more later told
  pub lines : page work ≡ page_of told
  pub kept : IsKept keeps work.done.items done
