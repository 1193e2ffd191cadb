-- What the order of a run is seen as, and what it keeps.
use Rattle.std.specs.Prelude.{ℕ, ◌≡◌, ◌+◌, ◌^◌, ◌<◌, ◌≤◌, List, [], ◌∷◌, length, slice_index, All}
use Rattle.board_prelude.specs.{Entry, entries_by}
use Rattle.run_order.specs.declared.done.Done.{Done}
use Rattle.run_order.specs.declared.done.Done.TheVariants.{Went, Looked}
use Rattle.run_order.specs.declared.entry.RunEntry.{RunEntry}
use Rattle.run_order.specs.Over.{IsPlacedBelow, over}

-- the entries, the newest first, the room for more, and how many entries of the bus's history are among them
pub record Order : Type 0 where
  pub entries : List RunEntry
  pub spare : ℕ
  pub bus : ℕ

-- how many entries there are and is room for in all
abbrev pub in_all : Order → ℕ
in_all order = length order.entries + order.spare

-- entries and room stay below this
abbrev pub most : ℕ
most = 2 ^ 32

-- there is the room, each entry is over the front of the bus's history that is among them, and the counts are those of
-- the processors' entries
pub record IsOrder (order : Order) (capacity : ℕ) (counts : List ℕ) : Type 0 where
  pub room : length order.entries + order.spare ≤ capacity
  pub few : length order.entries + order.spare < most
  pub fewer : order.bus ≤ length order.entries
  pub within : All (IsPlacedBelow order.bus) order.entries
  pub counted :
      (bus : List Entry) (actor : ℕ) → actor < 8 →
      slice_index counts actor ≡ length (entries_by actor (over bus order.entries))

-- how many looks are in what a processor did, and in what all did
abbrev pub looks_in : List Done → ℕ
looks_in [] = 0
looks_in (Went version event ∷ done) = looks_in done
looks_in (Looked kind addr smm look ∷ done) = looks_in done + 1

abbrev pub all_looks_in : List (List Done) → ℕ
all_looks_in [] = 0
all_looks_in (done ∷ rests) = looks_in done + all_looks_in rests
