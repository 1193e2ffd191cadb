-- The words of the contracts: what a pass is, and what it knows.
use Rattle.std.specs.Prelude.{◌≡◌, ℕ, List, [], ◌∷◌, Option, Some, None}
use Rattle.atomic_table.specs.declared.shared.Seat.{Seat}
use Rattle.bus_turn.specs.declared.view.View.{View}
use Rattle.bus_turn.specs.declared.view.Stage.TheVariants.{Idle, Holds}

abbrev Pass : Type 0 → Type 0 → Type 0 → Type 0
Pass T E F = Seat (Option T) (View E F)

module _ {T E F : Type 0} where
  -- the number that the caller's entries carry
  abbrev pub number_of : Pass T E F → ℕ
  number_of pass = pass.me.0.number

  -- how many passes were split from this one
  abbrev pub splits_of : Pass T E F → ℕ
  splits_of pass = pass.me.0.splits

  -- the list of the value that `open` took
  abbrev pub opened_of : Pass T E F → List E
  opened_of pass = pass.me.0.opened

  -- the fixed part of the value that `open` took
  abbrev pub part_of : Pass T E F → Option F
  part_of pass = pass.me.0.fixed

  -- the list as the caller has seen it
  abbrev pub seen_of : Pass T E F → List E
  seen_of pass = pass.me.0.seen

  -- the entries that the caller committed
  abbrev pub mine_of : Pass T E F → List E
  mine_of pass = pass.me.0.mine

  -- the numbers of the passes that were joined into this one, each with the entries that it committed
  abbrev pub joined_of : Pass T E F → List (ℕ × List E)
  joined_of pass = pass.me.0.joined

  -- the pass holds no turn
  abbrev pub IsIdle : Pass T E F → Type 0
  IsIdle pass = (pass.me.0.stage ≡ Idle) × (pass.me.1 ≡ [])

  -- the pass holds the turn, from `take` to `give`
  abbrev pub IsHolding : Pass T E F → Type 0
  IsHolding pass = (pass.me.0.stage ≡ Holds) × (pass.me.1 ≡ (0, None) ∷ [])

  -- the pass is of one caller and of one opened value
  abbrev pub IsSameCaller : Pass T E F → Pass T E F → Type 0
  IsSameCaller pass pass' = (number_of pass' ≡ number_of pass) × (opened_of pass' ≡ opened_of pass)
      × (part_of pass' ≡ part_of pass)

  abbrev pub HasSameJoined : Pass T E F → Pass T E F → Type 0
  HasSameJoined pass pass' = (splits_of pass' ≡ splits_of pass) × (joined_of pass' ≡ joined_of pass)

  -- what `open` gives: the pass of number 0, which has seen the opened list and has added nothing
  pub record IsFirst (entries : List E) (fixed : F) (pass : Pass T E F) : Type 0 where
    pub number : number_of pass ≡ 0
    pub splits : splits_of pass ≡ 0
    pub opened : opened_of pass ≡ entries
    pub part : part_of pass ≡ Some fixed
    pub seen : seen_of pass ≡ entries
    pub mine : mine_of pass ≡ []
    pub joined : joined_of pass ≡ []

  -- what `split` gives: the next pass, which has seen as much as the one that it was split from, and has added nothing
  pub record IsFurther (from pass : Pass T E F) : Type 0 where
    pub number : number_of pass ≡ splits_of from
    pub opened : opened_of pass ≡ opened_of from
    pub part : part_of pass ≡ part_of from
    pub seen : seen_of pass ≡ seen_of from
    pub mine : mine_of pass ≡ []
    pub joined : joined_of pass ≡ []
