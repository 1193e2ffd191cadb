-- Bytes of a board that a monitor keeps itself: those of the DRAM, of the disk as it was fitted, and of its sectors as
-- they stand. An image can leave them out, and a load takes them from the caller.
use Rattle.std.specs.Prelude.{ℕ, ◌≡◌, ◌≢◌, ◌⊎◌, if◌then◌else◌, List, [], ◌∷◌, length}
use Rattle.board_spec.specs.Setup.{Setup, installed}
use Rattle.board_chipset.specs.ChipsetState.{disk_size}
use Rattle.board_chipset.specs.Chipset.{Running}
use Rattle.board_chipset.specs.Given.{dram_left, dram_on, disk_left, fitted_on, sectors_on, with_dram, with_fitted}
use Rattle.board_chipset.specs.Given.{with_sectors}
use Rattle.machine.specs.declared.saved.LeftOut.{LeftOut}
use Rattle.machine.specs.Machines.{Saved}
use Rattle.machine.specs.Images.{IsSavedState, IsLoadRefusal, image_bytes}
use Rattle.machine.specs.declared.refusal.Refusal.{Refusal}
use Rattle.machine.specs.declared.refusal.Refusal.TheVariants.{BadLength}

abbrev pub on_board : (Running → Running) → Saved → Saved
on_board change saved =
    record saved { serial = record saved.serial { board = change saved.serial.board } }

-- ---- an image without them is that of the same board with zeros in their place

abbrev pub without : LeftOut → Saved → Saved
without left saved = on_board (λ chipset. dram_left left.dram (disk_left left.disk chipset)) saved

-- ---- a load with them: those that are given, each where it is given at all

pub record Given : Type 0 where
  pub dram : List ℕ
  pub fitted : List ℕ
  pub sectors : List ℕ

abbrev pub given_of : (dram fitted sectors : List ℕ) → Given
given_of dram fitted sectors = record { dram = dram; fitted = fitted; sectors = sectors }

abbrev pub given_or : (given own : List ℕ) → List ℕ
given_or [] own = own
given_or (byte ∷ later) own = byte ∷ later

abbrev pub with_given : Given → Running → Running
with_given given chipset =
    with_sectors (given_or given.sectors (sectors_on chipset))
    (with_fitted (given_or given.fitted (fitted_on chipset))
    (with_dram (given_or given.dram (dram_on chipset)) chipset))

-- they are as many as those in whose place they stand
abbrev pub IsAsMany : (given : List ℕ) → (size : ℕ) → Type 0
IsAsMany given size = given ≢ [] → length given ≡ size

pub record AreAsMany (given : Given) (setup : Setup) : Type 0 where
  pub dram : IsAsMany given.dram (installed setup)
  pub fitted : IsAsMany given.fitted (disk_size setup)
  pub sectors : IsAsMany given.sectors (disk_size setup)

-- the bytes are those of a board, and this is that board with what is given
pub record IsGivenBoard (bytes : List ℕ) (given : Given) (loaded : Saved) : Type 0 where
  pub saved : Saved
  pub sound : IsSavedState saved
  pub image : bytes ≡ image_bytes saved
  pub as_many : AreAsMany given saved.serial.board.setup
  pub same : loaded ≡ on_board (with_given given) saved

-- those of a board that its image leaves out
abbrev pub left_of : LeftOut → Running → Given
left_of left chipset = record {
  dram = if left.dram then dram_on chipset else [];
  fitted = if left.disk then fitted_on chipset else [];
  sectors = if left.disk then sectors_on chipset else [];
}

-- the bytes are those of a board, but what is given has other lengths
pub record HasOtherLength (bytes : List ℕ) (given : Given) : Type 0 where
  pub saved : Saved
  pub sound : IsSavedState saved
  pub image : bytes ≡ image_bytes saved
  pub other : ¬ AreAsMany given saved.serial.board.setup

abbrev pub IsGivenRefusal : (bytes : List ℕ) → Given → Refusal → Type 0
IsGivenRefusal bytes given why = IsLoadRefusal bytes why ⊎ ((why ≡ BadLength) × HasOtherLength bytes given)
