-- Since when a range of the memory map is what it is. Changes of the registers are a list with the newest first; the
-- number of a change counts from 1, which the oldest has.
use Rattle.std.specs.Prelude.{ℕ, ◌-◌, ◌≤◌, List, length, drop}
use Rattle.board_prelude.specs.{MapChange, Setup, registers_after, MapRange, IsRight}

-- the first changes, so many
abbrev pub first_changes : (count : ℕ) → List MapChange → List MapChange
first_changes count changes = drop (length changes - count) changes

-- after the first changes, so many, each address of the range has its areas
abbrev pub IsRightAfter : Setup → List MapChange → MapRange → (count : ℕ) → Type 0
IsRightAfter setup changes range count = IsRight setup (registers_after setup (first_changes count changes)) range

-- so it is after that many changes and after each that follows
abbrev pub StandsFrom : Setup → List MapChange → MapRange → (from : ℕ) → Type 0
StandsFrom setup changes range from =
    (count : ℕ) → from ≤ count → count ≤ length changes → IsRightAfter setup changes range count

-- the least number from which on the range stands
pub record IsSince (setup : Setup) (changes : List MapChange) (range : MapRange) (since : ℕ) : Type 0 where
  pub stands : StandsFrom setup changes range since
  pub least : (from : ℕ) → StandsFrom setup changes range from → since ≤ from
