-- Bytes that a caller keeps itself: left out they are spelled as any others beside themselves, and they can be put in.
use Rattle.std.proofs.Common.{◌≡◌, ℕ, suc, ◌≤◌, ◌<◌, Bool, List, [], ◌∷◌, length, drop, replicate, option_map}
use Rattle.std.proofs.Common.{unwrap_or, Option, refl, sym, ap, ◌∙◌, arith, slice_index}
use Rattle.board_prelude.proofs.{bytes_eq-Decides, length-replicate, length-take, length-drop, nat_tests, Disk, Setup}
use Rattle.board_prelude.proofs.{reset_byte}
use Rattle.std.proofs.lemmas.List.{drop_min, take_min}
use Rattle.byte_fields.specs.Pages.{memory_bytes, memory_page, pages_bytes}
use Rattle.byte_fields.proofs.PageFormats.{bytes_first}
use Rattle.board_devices.specs.Devices.{HasDisk, holding, sectors_in}
use Rattle.board_devices.specs.State.{fitted_bytes}
use Rattle.board_chipset.specs.ChipsetState.{head_bytes, size_bytes, disk_size}
use Rattle.board_chipset.specs.Given.{fitted_with, unless_left, zeros}
use Rattle.std.proofs.lemmas.Grind.{same_number_lists}
use Rattle.dram_store.specs.Dram.{IsWritten}
use Rattle.board_chipset.specs.Kept.{IsSound}
use Rattle.board_chipset.specs.declared.state.State.{State}

-- as many bytes beside themselves are spelled alike
pub own_pages : (fuel size : ℕ) (xs ys : List ℕ) → 0 < size → length xs ≤ fuel → length xs ≡ length ys →
    pages_bytes size xs xs ≡ pages_bytes size ys ys
own_pages fuel size [] [] some few same = refl
own_pages (suc fuel) size (x ∷ xs) (y ∷ ys) some few same =
    let fewer = length-drop size (x ∷ xs) in
    let as_few = length-drop size (y ∷ ys) in
    grind (
      arith,
      nat_tests,
      length-take,
      take_min,
      drop_min,
      bytes_first,
      bytes_eq-Decides,
      own_pages fuel size (drop size (x ∷ xs)) (drop size (y ∷ ys)) some (omega arith) (omega arith),
    )
own_pages _ size _ _ some few same = absurd (omega (arith, same, few))

pub zeros_length : (bytes : List ℕ) → length (zeros bytes) ≡ length bytes
zeros_length bytes = length-replicate {A = ℕ} (length bytes) 0

-- bytes beside themselves are spelled as zeros
pub blank_pages : (bytes : List ℕ) → pages_bytes memory_page bytes bytes ≡ memory_bytes (zeros bytes)
blank_pages bytes =
    own_pages (length bytes) memory_page bytes (zeros bytes) (omega arith) (omega arith) (sym (zeros_length bytes))
    ∙ ap (λ (n : ℕ). pages_bytes memory_page (replicate n 0) (zeros bytes)) (sym (zeros_length bytes))

pub left_length : (left : Bool) (bytes : List ℕ) → length (unless_left left bytes) ≡ length bytes
left_length left bytes = grind (arith, nat_tests, zeros_length bytes)

-- those of a disk, where there is one
pub left_on : (left : Bool) (disk : Option (List ℕ)) →
    unwrap_or (option_map {T = List ℕ} (λ _. unless_left left (unwrap_or disk [])) disk) []
    ≡ unless_left left (unwrap_or disk [])
left_on left disk = grind (arith, nat_tests)

-- ---- the devices without the bytes of the disk are spelled as over their own sectors

pub left_disk : (fitted : Option (List ℕ)) (disk : Option Disk) → HasDisk fitted disk → HasDisk (sectors_in disk) disk →
    fitted_bytes (sectors_in disk) disk
    ≡ fitted_bytes (option_map {T = List ℕ} (λ _. zeros (unwrap_or fitted [])) fitted)
    (option_map (holding (zeros (unwrap_or (sectors_in disk) []))) disk)
unfolding fitted_bytes
left_disk fitted disk has own = grind (arith, nat_tests, zeros_length, own_pages)

-- ---- the head has the sizes alone

pub left_head : (left : Bool) (setup : Setup) →
    head_bytes (fitted_with (unless_left left (unwrap_or setup.disk [])) setup) ≡ head_bytes setup
unfolding head_bytes size_bytes
left_head left setup =
    grind (arith, nat_tests, left_on left setup.disk, left_length left (unwrap_or setup.disk []))

-- ---- all bytes of a DRAM were written

pub all_written : (old new bytes : List ℕ) → IsWritten old 0 (length bytes) (slice_index bytes) new →
    length new ≡ length old → length bytes ≡ length old → new ≡ bytes
all_written old new bytes is size whole =
    same_number_lists new bytes (size ∙ sym whole) (λ at below. grind (arith, nat_tests, is at))

-- ---- another disk was fitted, as large

pub sound_as : (bytes : List ℕ) (setup : Setup) (state : State) → length bytes ≡ disk_size setup →
    IsSound setup state → IsSound (fitted_with bytes setup) state
unfolding reset_byte
sound_as bytes setup state same is = grind (arith, nat_tests)
