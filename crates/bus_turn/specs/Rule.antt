-- The rule of the table. There is one order of all entries, and the words, the slot and what each pass knows fit it.
use Rattle.std.specs.Prelude.{◌≡◌, ◌≢◌, ℕ, ◌+◌, ◌%◌, ◌^◌, ◌<◌, ◌≤◌, List, [], ◌∷◌, ◌++◌, length, All, Option, Some}
use mathlib.Core.Option.{none, some}
use mathlib.Core.Option as maybe
use mathlib.Core.List.{IsPrefix}
use lib.ListN.{get_elem?}
use Rattle.atomic_table.specs.Table.{State}
use Rattle.bus_turn.specs.declared.view.View.{View}
use Rattle.bus_turn.specs.declared.view.Stage.{Stage}
use Rattle.bus_turn.specs.declared.view.Stage.TheVariants.{Idle, Waits, Holds, Spent}
use Rattle.bus_turn.specs.Views.{own_by, spent}

-- where the value is: in the slot, or with the caller that holds the turn
pub data Place (T : Type 0) : Type 0 where
  home : T → Place T
  away : Place T

abbrev pub slot_of : {T : Type 0} → Place T → maybe.Option (Option T)
slot_of (home x) = some (Some x)
slot_of away = none

-- What there is beside the table: the entries since the opening, the tickets drawn and served in all, and which pass
-- drew which
pub record Book (T E : Type 0) : Type 0 where
  pub since : List E
  pub ticket : ℕ
  pub serving : ℕ
  pub owner : ℕ → ℕ
  pub place : Place T

-- 1 for a pass that has a ticket
abbrev pub waiting : Stage → ℕ
waiting Idle = 0
waiting (Waits t) = 1
waiting Holds = 1
waiting Spent = 0

-- 1 for a pass that was joined into another
abbrev pub gone : Stage → ℕ
gone Spent = 1
gone _ = 0

abbrev pub total : {A : Type 0} → (A → ℕ) → List A → ℕ
total f [] = 0
total f (x ∷ xs) = f x + total f xs

module _ {E F : Type 0} where
  abbrev pub waits : View E F → ℕ
  waits v = waiting v.stage

  abbrev pub is_gone : View E F → ℕ
  is_gone v = gone v.stage

  abbrev pub joins : View E F → ℕ
  joins v = length v.joined

  abbrev pub IsSpent : List (View E F) → ℕ → Type 0
  IsSpent views i = get_elem? views i ≡ some spent

  -- each pass that was joined is counted in one that was not
  abbrev pub AreJoined : List (View E F) → Type 0
  AreJoined views = total is_gone views ≡ total joins views

module _ {T E : Type 0} (first : List E) where
  -- all entries
  abbrev pub log_of : Book T E → List E
  log_of b = first ++ b.since

  abbrev pub words_of : Book T E → List ℕ
  words_of b = (b.ticket % 2 ^ 64) ∷ (b.serving % 2 ^ 64) ∷ (length (log_of b) % 2 ^ 64) ∷ []

  -- the pass i, which has seen this list, is at this stage
  abbrev pub AtStage : Book T E → ℕ → List E → Stage → Type 0
  AtStage b i seen Idle = Unit {0}
  AtStage b i seen (Waits t) = (b.serving ≤ t) × (t < b.ticket) × (b.owner t ≡ i)
  AtStage b i seen Holds = (b.serving < b.ticket) × (b.owner b.serving ≡ i) × (b.place ≡ away) × (seen ≡ log_of b)
  AtStage b i seen Spent = Unit {0}

-- what the pass i knows. Its number is its place among the views
pub record Knows {T E F : Type 0} (actor : E → ℕ) (first : List E) (part : F) (b : Book T E) (views : List (View E F))
    (i : ℕ) (v : View E F) : Type 0 where
  pub opened : v.opened ≡ first
  pub part_is : v.fixed ≡ Some part
  pub begins : IsPrefix v.seen (log_of first b)
  pub told : IsPrefix v.told (log_of first b)
  pub number : v.number ≡ i
  pub splits : i ≡ 0 → v.splits + 1 ≡ length views
  pub mine : own_by actor i b.since ≡ v.mine
  pub joined : All (λ p. (own_by actor p.0 b.since ≡ p.1) × IsSpent views p.0) v.joined
  pub stage : AtStage first b i v.seen v.stage

-- the value in the slot has all entries, or the pass whose ticket is served holds it
abbrev pub Lies : {T E F : Type 0} → (T → List E) → (T → F) → List E → F → Book T E → List (View E F) → Place T → Type 0
Lies entries fixed first part b views (home x) = (entries x ≡ log_of first b) × (fixed x ≡ part)
Lies {T} {E} {F} entries fixed first part b views away = (v : View E F) × (get_elem? views (b.owner b.serving) ≡ some v)
    × (v.stage ≡ Holds)

pub record Ordered {T E F : Type 0} (entries : T → List E) (actor : E → ℕ) (fixed : T
    → F) (first : List E) (part : F) (s : State (Option T) (View E F)) : Type 0 where
  pub book : Book T E
  pub words_are : s.words ≡ words_of first book
  pub home_is : s.homes ≡ slot_of book.place ∷ []
  pub out : book.ticket ≡ book.serving + total waits s.views
  pub few : (0 < length s.views) × (length s.views ≤ 256)
  pub lies : Lies entries fixed first part book s.views book.place
  pub each_seat : (i : ℕ) (v : View E F) → get_elem? s.views i ≡ some v → v.stage ≢ Spent
      → Knows actor first part book s.views i v
  pub numbered : All (λ e. actor e < length s.views) book.since

abbrev pub Ruled : {T E F : Type 0} → (T → List E) → (E → ℕ) → (T → F) → List E → F → State (Option T) (View E F)
    → Type 0
Ruled entries actor fixed first part s = Ordered entries actor fixed first part s × AreJoined s.views
