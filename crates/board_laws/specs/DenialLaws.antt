-- Where an access is denied: exactly where nobody answers it, and where it writes to the ROM.
use Rattle.std.specs.Prelude.{ℕ, ◌≡◌, Bool, true, false, List, All, Option, is_some}
use Rattle.board_prelude.specs.{Target, Rom, Abort, Denial, Event, Memory, Wide, Parts, Bus, Entry, Setup, is_write}
use Rattle.board_prelude.specs.{parts_list, IsAnswer}
use Rattle.board_spec.specs.declared.event.Reply.TheVariants.{Parts as InParts}

-- an access with this target reaches nothing, or writes to the ROM
abbrev pub ReachesNothing : (writes : Bool) → Target → Type 0
ReachesNothing writes Abort = Unit {0}
ReachesNothing writes (Rom off) = writes ≡ true
ReachesNothing writes _ = ⊥

-- a denial is given exactly there
pub record IsDeniedExactly (writes : Bool) (target : Target) (denial : Option Denial) : Type 0 where
  pub wherever : ReachesNothing writes target → is_some denial ≡ true
  pub only : is_some denial ≡ true → ReachesNothing writes target

abbrev pub writes_memory : Event → Bool
writes_memory (Memory access) = is_write access.kind
writes_memory (Wide access) = is_write access.kind
writes_memory _ = false

-- of each reply on the bus, and of each part of a wide access
abbrev pub DeniedOnBus : Type 0
DeniedOnBus =
    (setup : Setup) (before : List Entry) (event : Event) (value : Option ℕ) (target : Target)
    (denial : Option Denial) →
    IsAnswer setup before event (Bus value target denial) → IsDeniedExactly (writes_memory event) target denial

abbrev pub DeniedInParts : Type 0
DeniedInParts =
    (setup : Setup) (before : List Entry) (event : Event) (value : Option ℕ) (parts : Parts) →
    IsAnswer setup before event (InParts parts value) →
    All (λ part. IsDeniedExactly (writes_memory event) part.target part.denial) (parts_list parts)
