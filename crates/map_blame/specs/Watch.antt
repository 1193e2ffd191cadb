-- The ranges of the map at the end, watched while the changes are made one after another.
use Rattle.std.specs.Prelude.{ℕ, ◌≡◌, ◌+◌, ◌-◌, ◌<◌, ◌≤◌, true, false, List, ◌∷◌, length}
use Rattle.board_prelude.specs.{MapChange, Setup, registers_after, address_count, six_areas}
use Rattle.addr_decode.specs.MapRegs.{StandsFor}
use Rattle.map_builder.specs.declared.range.Changed.{Changed}
use Rattle.map_builder.specs.declared.range.Range.{Range}
use Rattle.map_builder.specs.Map.{Mapped}
use Rattle.map_builder.specs.Changed.{IsOutside}
use Rattle.map_blame.specs.declared.watch.Watched.{Watched}
use Rattle.map_blame.specs.Since.{IsRightAfter, StandsFrom}
use Rattle.map_blame.specs.Report.{map_range_of}

-- a range has an address, and ends at the last one or below it
pub record IsInterval (range : Range) : Type 0 where
  pub order : range.lo ≤ range.hi
  pub last : range.hi < address_count

abbrev pub IsWatchable : Watched → Type 0
IsWatchable watched = IsInterval watched.blamed.range

-- a map has the registers after these changes
abbrev pub IsAfter : Setup → List MapChange → Mapped → Type 0
IsAfter setup changes map = StandsFor setup (registers_after setup changes) map.regs

-- a range is right after these changes exactly where it is said to stand. Where it is, it has been so since it is said,
-- and just before that it was not
pub record IsWatched (setup : Setup) (changes : List MapChange) (watched : Watched) : Type 0 where
  pub standing : watched.stands ≡ true → StandsFrom setup changes (map_range_of watched.blamed) watched.blamed.since
  pub fallen : watched.stands ≡ false → ¬ IsRightAfter setup changes (map_range_of watched.blamed) (length changes)
  pub before :
      0 < watched.blamed.since → ¬ IsRightAfter setup changes (map_range_of watched.blamed) (watched.blamed.since - 1)
  pub most : watched.blamed.since ≤ length changes

-- outside some bounds each address has the same areas before and after a change
abbrev pub HoldChange : Changed → Setup → (before : List MapChange) → MapChange → Type 0
HoldChange bounds setup before change =
    (addr : ℕ) → addr < address_count → IsOutside addr bounds →
    six_areas setup (registers_after setup (change ∷ before)) addr ≡ six_areas setup (registers_after setup before) addr

-- what is watched of a range before and after the change of a number, by the map after it and its bounds
pub record IsWatchedOn (map : Mapped) (bounds : Changed) (number : ℕ) (old new : Watched) : Type 0 where
  pub range : new.blamed.range ≡ old.blamed.range
  pub watched :
      (setup : Setup) (before : List MapChange) (change : MapChange) → number ≡ length before + 1 →
      IsAfter setup (change ∷ before) map → HoldChange bounds setup before change →
      IsWatched setup before old → IsWatched setup (change ∷ before) new
