-- The place of a look: directly after the later of its processor's previous statement and the map write whose count is
-- its version. Looks in the same place stand in order of processor. Histories have the newest entry first.
use Rattle.std.specs.Prelude.{ℕ, ◌≡◌, ◌<◌, ◌⊎◌, ◌&&◌, nat_lt, if◌then◌else◌, List, [], ◌∷◌, ◌++◌, length, take, drop}
use Rattle.board_prelude.specs.{Event, Reply, Saw, Entry, Statement, Setup, version_of}
use Rattle.board_spec.specs.declared.event.Event.TheVariants.{Look as LookAt}
use Rattle.run_order.specs.Placing.{is_look}

-- entries without the looks of lower processors that come last
abbrev pub without_lower : (actor : ℕ) → List Entry → List Entry
without_lower actor [] = []
without_lower actor (entry ∷ before) =
    if is_look entry.event && nat_lt entry.actor actor then without_lower actor before else entry ∷ before

-- an entry after a history is the map write of this count
pub record IsMapWrite (setup : Setup) (before : List Entry) (entry : Entry) (count : ℕ) : Type 0 where
  pub fewer : version_of setup before < count
  pub count_is : version_of setup (entry ∷ before) ≡ count

-- the last of the entries that a phase added to a history is the processor's own, or the map write whose count is this
-- version; or there is none
abbrev pub IsPlaceOf : Setup → List Entry → (actor version : ℕ) → List Entry → Type 0
IsPlaceOf setup history actor version [] = Unit {0}
IsPlaceOf setup history actor version (last ∷ before) =
    (last.actor ≡ actor) ⊎ IsMapWrite setup (before ++ history) last version

-- a look of a processor stands directly after such an entry, but for looks of lower processors
abbrev pub IsInPlace : Setup → List Entry → List Entry → ℕ → Event → Reply → Type 0
IsInPlace setup history before actor (LookAt kind addr smm) (Saw look) =
    IsPlaceOf setup history actor look.version (without_lower actor before)
IsInPlace setup history before actor _ _ = Unit {0}

-- each look does that a phase added to a history
abbrev pub AreInPlace : Setup → List Entry → List Entry → Type 0
AreInPlace setup history [] = Unit {0}
AreInPlace setup history (entry ∷ before) =
    IsInPlace setup history before entry.actor entry.event entry.reply × AreInPlace setup history before

-- cut into parts as long as the phases, the newest first, each look of each part is in its place
abbrev pub AreAllInPlace : Setup → (phases : List (List Statement)) → List Entry → Type 0
AreAllInPlace setup [] history = Unit {0}
AreAllInPlace setup (phase ∷ earlier) history =
    AreInPlace setup (drop (length phase) history) (take (length phase) history)
    × AreAllInPlace setup earlier (drop (length phase) history)
