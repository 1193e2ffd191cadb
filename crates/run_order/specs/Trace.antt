-- What a processor did in a phase, by the clauses of its calls. Histories and lists of map writes have the newest
-- first.
use Rattle.std.specs.Prelude.{ℕ, ◌≡◌, Bool, false, List, [], ◌∷◌, ◌++◌, length}
use Rattle.board_prelude.specs.{Kind, Look, Event, Entry, MapChange, Setup, map_writes_of, registers_after, IsSpan}
use Rattle.board_prelude.specs.{entries_by}
use Rattle.run_order.specs.declared.done.Done.{Done}
use Rattle.run_order.specs.declared.done.Done.TheVariants.{Went, Looked}
use Rattle.run_order.specs.Placing.{is_look}

-- a history begins with another
abbrev pub Begins : (shorter longer : List Entry) → Type 0
Begins shorter longer = (more : List Entry) × (longer ≡ more ++ shorter)

-- a list of map writes begins with another
abbrev pub HasMoreWrites : (shorter longer : List MapChange) → Type 0
HasMoreWrites shorter longer = (more : List MapChange) × (longer ≡ more ++ shorter)

-- what a look gives after these map writes: their number, and a span of the registers after them
pub record IsLookOf (setup : Setup) (writes : List MapChange) (kind : Kind) (addr : ℕ) (smm : Bool)
    (look : Look) : Type 0 where
  pub version : look.version ≡ length writes
  pub span : IsSpan setup (registers_after setup writes) addr kind smm look.lo look.hi look.area

-- a look of a processor that knew the map writes `older` and then knows `known`
pub record IsLooked (setup : Setup) (older known : List MapChange) (kind : Kind) (addr : ℕ) (smm : Bool)
    (look : Look) : Type 0 where
  pub later : HasMoreWrites older known
  pub saw : IsLookOf setup known kind addr smm look

-- a call of the bus, by a processor that had seen the history `seen` and knew the map writes `older`: it found the
-- history `list`, to which its entry was added, and has seen `now` and knows `known` then
pub record IsGone (setup : Setup) (actor : ℕ) (seen : List Entry) (older : List MapChange) (event : Event)
    (now : List Entry) (known : List MapChange) : Type 0 where
  pub list : List Entry
  pub entry : Entry
  pub begins : Begins seen list
  pub mine : entries_by actor list ≡ entries_by actor seen
  pub meets : HasMoreWrites older (map_writes_of setup list)
  pub own : entry.actor ≡ actor
  pub said : entry.event ≡ event
  pub now_is : now ≡ entry ∷ list
  pub known_is : known ≡ map_writes_of setup now

-- what a processor did, the newest first, led from the history `opened` to having seen `seen` and knowing `known`. What
-- goes through the turn is no look, and its version is that of the map as the processor knows it then
abbrev pub IsDone : Setup → ℕ → List Entry → List Done → List Entry → List MapChange → Type 0
IsDone setup actor opened [] seen known = (seen ≡ opened) × (known ≡ map_writes_of setup opened)
IsDone setup actor opened (Looked kind addr smm look ∷ before) seen known =
    (older : List MapChange) × IsLooked setup older known kind addr smm look
    × IsDone setup actor opened before seen older
IsDone setup actor opened (Went version event ∷ before) seen known =
    (was : List Entry) × (older : List MapChange) × IsGone setup actor was older event seen known
    × (version ≡ length known) × (is_look event ≡ false) × IsDone setup actor opened before was older

-- the history `whole` is what the board was closed with, by a processor that had seen `seen` and knew `known`
pub record IsClosed (setup : Setup) (actor : ℕ) (seen : List Entry) (known : List MapChange)
    (whole : List Entry) : Type 0 where
  pub begins : Begins seen whole
  pub meets : HasMoreWrites known (map_writes_of setup whole)
  pub mine : entries_by actor whole ≡ entries_by actor seen
