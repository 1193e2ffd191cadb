-- A board that is saved without bytes of its own, and loaded with them.
use Rattle.std.proofs.Common.{◌≡◌, ◌≢◌, ℕ, Bool, if◌then◌else◌, List, [], ◌∷◌, length, unwrap_or, Option, Some, None}
use Rattle.std.proofs.Common.{Result, Ok, Err, ◌⊎◌, refl, sym, arith, ◌∙◌}
use Rattle.board_prelude.proofs.{Disk, nat_tests}
use Rattle.board_devices.specs.Devices.{sectors_in}
use Rattle.board_devices.specs.State.{IsFittedDisk}
use Rattle.board_chipset.specs.ChipsetState.{IsChipset}
use Rattle.board_chipset.specs.Chipset.{Running}
use Rattle.board_chipset.specs.Given.{dram_on, fitted_on, sectors_on, with_dram, with_fitted, with_sectors}
use Rattle.board_chipset.proofs.LeftBytes.{left_length, left_on}
use Rattle.machine.specs.declared.saved.LeftOut.{LeftOut}
use Rattle.machine.specs.Machines.{MachineState, Saved, without_roms}
use Rattle.machine.specs.Given.{AreAsMany, Given, IsAsMany, given_or, left_of, on_board, with_given, without}
use Rattle.machine.specs.Images.{IsSavedState, image_bytes}
use Rattle.machine.specs.declared.refusal.Refusal.{Refusal}
use Rattle.machine.specs.declared.refusal.Refusal.TheVariants.{NoMemory}

-- ---- other bytes, as many, in the place of a board's own

pub whole_with : (dram fitted sectors : List ℕ) (chipset : Running) → length dram ≡ length (dram_on chipset) →
    length fitted ≡ length (fitted_on chipset) → length sectors ≡ length (sectors_on chipset) → IsChipset chipset →
    IsChipset (with_dram dram (with_fitted fitted (with_sectors sectors chipset)))
whole_with dram fitted sectors chipset of_dram of_fitted of_sectors is = grind (arith, nat_tests)

pub sound_without : (left : LeftOut) (saved : Saved) → IsSavedState saved → IsSavedState (without left saved)
sound_without left saved is =
    let board : Running = saved.serial.board in
    assumption (whole_with _ _ _ _ (left_length left.dram (dram_on board)) (left_length left.disk (fitted_on board))
    (left_length left.disk (sectors_on board)) is.state.chipset)

-- ---- what is given in their place

sectors_long : (fitted : Option (List ℕ)) (disk : Option Disk) → IsFittedDisk fitted disk →
    length (unwrap_or (sectors_in disk) []) ≡ length (unwrap_or fitted [])
sectors_long None None is = refl
sectors_long (Some bytes) (Some disk) is = is.medium.bytes
sectors_long _ _ is = absurd is

given_length : (given own : List ℕ) (size : ℕ) → IsAsMany given size → length own ≡ size →
    length (given_or given own) ≡ length own
given_length [] own size same is = refl
given_length (byte ∷ later) own size same is = same (λ none. cc) ∙ sym is

pub sound_with : (given : Given) (saved : Saved) → AreAsMany given saved.serial.board.setup → IsSavedState saved →
    IsSavedState (on_board (with_given given) saved)
sound_with given saved many is =
    let chipset : Running = saved.serial.board in
    let fitted : List ℕ = fitted_on chipset in
    assumption (whole_with _ _ _ _ (given_length _ _ _ many.dram
    is.state.chipset.whole.stores.dram)
    (given_length _ _ _ many.fitted refl)
    (given_length _ _ _ many.sectors (sectors_long _ _ is.state.chipset.whole.devices.disk))
    is.state.chipset)

-- ---- its own put in again

pub restored : (left : LeftOut) (saved : Saved) →
    on_board (with_given (left_of left saved.serial.board)) (without left saved) ≡ saved
restored left saved = grind (arith, nat_tests)

-- they are as many

as_many : (left : Bool) (bytes : List ℕ) (size : ℕ) → length bytes ≡ size → (if left then bytes else []) ≢ [] →
    length (if left then bytes else []) ≡ size
as_many left bytes size same some = grind (arith, nat_tests)

pub own_as_many : (left : LeftOut) (saved : Saved) → IsSavedState saved →
    AreAsMany (left_of left saved.serial.board) (without left saved).serial.board.setup
own_as_many left saved is = grind (arith, nat_tests, left_on, left_length, as_many, sectors_long)

-- so a load with them gives the machine that was saved
pub loaded_back :
    (result : Result MachineState Refusal) (bytes : List ℕ) (given : Given) (left : LeftOut) (saved : Saved) →
    ((any : Saved) → IsSavedState any → bytes ≡ image_bytes any → AreAsMany given any.serial.board.setup →
    (result ≡ Err NoMemory) ⊎ (result ≡ Ok (without_roms (on_board (with_given given) any)))) →
    IsSavedState saved → bytes ≡ image_bytes (without left saved) → given ≡ left_of left saved.serial.board →
    (result ≡ Err NoMemory) ⊎ (result ≡ Ok (without_roms saved))
loaded_back result bytes given left saved exact is image own =
    let fits : AreAsMany given (without left saved).serial.board.setup = rw own (own_as_many left saved is) in
    let same : on_board (with_given given) (without left saved) ≡ saved = rw own (restored left saved) in
    grind (arith, nat_tests, exact (without left saved) (sound_without left saved is) image fits)
