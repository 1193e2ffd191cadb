-- A caller's history: what `Cpu::bus` and `Cpu::look` say of the one history that all callers share. Histories and
-- lists of map writes have the newest first.
use Rattle.std.specs.Prelude.{ℕ, ◌≡◌, Bool, List, [], ◌∷◌, ◌++◌, length}
use Rattle.board_spec.specs.declared.event.Entry.{Entry}
use Rattle.board_spec.specs.declared.event.Event.{Event}
use Rattle.board_spec.specs.declared.event.Reply.{Reply}
use Rattle.board_spec.specs.declared.event.Look.{Look}
use Rattle.board_spec.specs.declared.map_change.MapChange.{MapChange}
use Rattle.board_spec.specs.Setup.{Setup}
use Rattle.board_spec.specs.Answer.{IsAnswer}
use Rattle.board_spec.specs.FlatMap.{IsSpan}
use Rattle.board_spec.specs.Legal.{entries_by, next_entry}
use Rattle.board_spec.specs.MapWrites.{map_writes_of, registers_after}
use Rattle.board_base.specs.declared.access.Kind.{Kind}

-- one list begins with another: it goes on with what is newer
abbrev pub GoesOn : {E : Type 0} → (shorter longer : List E) → Type 0
GoesOn {E} shorter longer = (newer : List E) × (longer ≡ newer ++ shorter)

-- what a caller has: the history as it has seen it, and the map writes that it knows
pub record View : Type 0 where
  pub seen : List Entry
  pub known : List MapChange

-- a call of the bus has one place in one history: that history begins with what the caller saw, and what others did
-- since has no entry of the caller's. Its reply is the answer after that history, and its entry the next. Then the
-- caller has seen just that, and knows its map writes, which begin with those that it knew
pub record HasPlace (setup : Setup) (number : ℕ) (event : Event) (reply : Reply) (place : ℕ)
    (before now : View) : Type 0 where
  pub others : List Entry
  pub not_mine : entries_by number others ≡ []
  pub place_is : place ≡ length (others ++ before.seen)
  pub answer : IsAnswer setup (others ++ before.seen) event reply
  pub entry : now.seen ≡ next_entry (others ++ before.seen) number event reply ∷ (others ++ before.seen)
  pub known : now.known ≡ map_writes_of setup now.seen
  pub meets : GoesOn before.known (map_writes_of setup (others ++ before.seen))

-- a call that was refused for want of memory added no entry of the caller's, and what it has is not less
pub record AddsNothing (number : ℕ) (before now : View) : Type 0 where
  pub others : List Entry
  pub seen : now.seen ≡ others ++ before.seen
  pub not_mine : entries_by number others ≡ []
  pub meets : GoesOn before.known now.known

-- a look gives the longest range by the registers after the map writes that the caller then knows, and their number.
-- They begin with those that it knew, so that no look goes back; what it has seen stays
pub record IsLookOf (setup : Setup) (kind : Kind) (addr : ℕ) (smm : Bool) (look : Look) (before now : View) : Type 0
  where
    pub seen : now.seen ≡ before.seen
    pub goes_on : GoesOn before.known now.known
    pub version : look.version ≡ length now.known
    pub span : IsSpan setup (registers_after setup now.known) addr kind smm look.lo look.hi look.area
