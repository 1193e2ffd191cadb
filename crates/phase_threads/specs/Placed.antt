-- The order of a run beside the history of its board. Histories have the newest entry first.
use Rattle.std.specs.Prelude.{ℕ, ◌≡◌, List, length, map, reverse, Option, None, Some}
use Rattle.board_spec.specs.declared.event.Entry.{Entry}
use Rattle.run_order.specs.Over.{over}
use Rattle.run_order.specs.Room.{Order}

-- the entries of a run: the board's own, where the run has no order of its own
abbrev pub entries_of : Option Order → List Entry → List Entry
entries_of None own = own
entries_of (Some order) own = over (reverse own) order.entries

-- an order has this many entries of the board's own history
abbrev pub IsUpToCount : Option Order → ℕ → Type 0
IsUpToCount None count = Unit {0}
IsUpToCount (Some order) count = order.bus ≡ count

-- an order has all entries of the board's own history
abbrev pub IsUpTo : Option Order → List Entry → Type 0
IsUpTo order own = IsUpToCount order (length own)

-- the processors of entries, that of the oldest first
abbrev pub actors_in : List Entry → List ℕ
actors_in history = map (λ entry. entry.actor) (reverse history)
