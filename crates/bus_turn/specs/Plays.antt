-- What each step on the table tells, of the seat before and the seat after.
use Rattle.std.specs.Prelude.{◌≡◌, ◌≢◌, ℕ, ◌%◌, ◌^◌, List, [], ◌∷◌, ◌≤◌, length, drop, All, Option, Some}
use mathlib.Core.List.{IsPrefix}
use Rattle.atomic_table.specs.Table.{Me, Step}
use Rattle.bus_turn.specs.declared.view.View.{View}
use Rattle.bus_turn.specs.declared.view.Stage.{Stage}
use Rattle.bus_turn.specs.declared.view.Stage.TheVariants.{Idle, Waits, Holds}
use Rattle.bus_turn.specs.Views.{own_by, staged, sees, commits}

-- the value x fits what the pass knows
pub record Fits {T E F : Type 0} (entries : T → List E) (actor : E → ℕ) (fixed : T
    → F) (v : View E F) (x : T) : Type 0 where
  pub begins : IsPrefix v.seen (entries x)
  pub opened : IsPrefix v.opened (entries x)
  pub mine : own_by actor v.number (drop (length v.opened) (entries x)) ≡ v.mine
  pub part : v.fixed ≡ Some (fixed x)

-- the value x is what a turn ends with, by the pass of `open`, into which all others were joined
pub record Closes {T E F : Type 0} (entries : T → List E) (actor : E → ℕ) (fixed : T
    → F) (v : View E F) (x : T) : Type 0 where
  pub fits : Fits entries actor fixed v x
  pub joined : All (λ p. own_by actor p.0 (drop (length v.opened) (entries x)) ≡ p.1) v.joined
  pub callers : All (λ e. actor e ≤ v.splits) (drop (length v.opened) (entries x))

-- the ticket of a pass that waits
abbrev pub ticket_of : Stage → ℕ
ticket_of (Waits t) = t
ticket_of _ = 0

abbrev Told : Type 0 → Type 0 → Type 0 → Type 1
Told T E F = Step (Option T) → Me (Option T) (View E F) → ℕ → Me (Option T) (View E F) → Type 0

module _ {T E F : Type 0} where
  -- the ticket t was drawn, which the word shows in its turn of 2^64
  abbrev pub drew : Told T E F
  drew st m found m' = (t : ℕ) × (t % 2 ^ 64 ≡ found) × (m' ≡ (staged m.0 (Waits t), m.1))

  -- the pass's ticket is served, and the slot was taken, or nothing changed
  abbrev pub called : (T → List E) → (E → ℕ) → (T → F) → Told T E F
  called entries actor fixed st m found m' =
      (ticket_of m.0.stage % 2 ^ 64 ≡ found
      → (x : T) × (m' ≡ (sees m.0 Holds (entries x), (0, Some x) ∷ m.1)) × Fits entries actor fixed m.0 x)
      × (ticket_of m.0.stage % 2 ^ 64 ≢ found → m' ≡ m)

  abbrev pub counted : List E → Told T E F
  counted added st m found m' = m' ≡ (commits m.0 added, m.1)

  abbrev pub gave : Told T E F
  gave st m found m' = m' ≡ (staged m.0 Idle, [])

  -- the list begins with what this pass has seen, and with what the pass had seen that was joined last
  abbrev pub looked : Told T E F
  looked st m found m' = (list : List E) × (m' ≡ (sees m.0 Idle list, m.1)) × IsPrefix m.0.seen list
      × IsPrefix m.0.told list
