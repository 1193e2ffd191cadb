-- What the laws say: each is proved on a function of `laws`.
use Rattle.std.specs.Prelude.{ℕ, ◌≡◌, ◌+◌, ◌-◌, ◌%◌, ◌≤◌, List, length, drop}
use Rattle.board_prelude.specs.{Entry, Setup, CardCell, version_of}
use Rattle.bus_master.specs.Cells.{Cells}
use Rattle.command_texts.specs.Blame.{entry_of_version}
use Rattle.command_texts.specs.Transfers.{AreCellsAfter}

-- the first entries of a history, so many
abbrev pub first_entries : (count : ℕ) → List Entry → List Entry
first_entries count history = drop (length history - count) history

-- the map had a version after so many entries, and not after fewer
pub record IsFirstWith (setup : Setup) (history : List Entry) (version count : ℕ) : Type 0 where
  pub had : version_of setup (first_entries count history) ≡ version
  pub least : (other : ℕ) → version_of setup (first_entries other history) ≡ version → count ≤ other

-- the entry of a version is the first after which the map had it
abbrev pub EntryOfVersionIsFirst : Type 0
EntryOfVersionIsFirst =
    (setup : Setup) (history : List Entry) (version : ℕ) → version ≤ version_of setup history →
    IsFirstWith setup history version (entry_of_version setup history version)

-- of an expansion ROM, base 6 of a card, a transfer reads the offset plus the device number, modulo 256
abbrev pub RomsAreRead : Type 0
RomsAreRead =
    (setup : Setup) (history : List Entry) (cells : Cells) → AreCellsAfter setup history cells → (dev off : ℕ) →
    cells (CardCell dev 6 off) ≡ (off + dev) % 256
