-- A running board as bytes, whole in itself: what it is fitted with, and then its state.
use Rattle.std.specs.Prelude.{ℕ, ◌≡◌, ◌≢◌, ◌<◌, ◌≤◌, ◌⊎◌, ◌++◌, List, length, take, drop, Result, Ok, Err}
use Rattle.dram_store.specs.State.{dram_bytes}
use Rattle.machine.specs.Identities.{AreIdentities}
use Rattle.machine.specs.Fitted.{Fitting, IsOtherVersion, fitting_bytes}
use Rattle.board_chipset.specs.Around.{after_dram, before_dram}
use Rattle.uart_16550.specs.SerialState.{IsSerial, serial_bytes}
use Rattle.uart_16550.specs.State.{com1_bytes}
use Rattle.machine.specs.Machines.{Saved}
use Rattle.machine.specs.declared.refusal.Refusal.{Refusal}
use Rattle.machine.specs.declared.refusal.Refusal.TheVariants.{BadImage, NoMemory, NoRoom, OtherVersion}

-- a state that steps can go on from, whether or not a board ever had it
pub record IsSavedState (saved : Saved) : Type 0 where
  pub state : IsSerial saved.serial
  pub say : AreIdentities saved.identities

abbrev pub fitting_of : Saved → Fitting
fitting_of saved = record { setup = saved.serial.board.setup; identities = saved.identities }

abbrev pub image_bytes : Saved → List ℕ
image_bytes saved = fitting_bytes (fitting_of saved) ++ serial_bytes saved.serial

-- the same in three: what stands before the bytes of the DRAM, these, and what stands after them
abbrev pub before_bytes : Saved → List ℕ
before_bytes saved = fitting_bytes (fitting_of saved) ++ before_dram saved.serial.board

abbrev pub after_bytes : Saved → List ℕ
after_bytes saved = after_dram saved.serial.board ++ com1_bytes saved.serial.com1

-- bytes with those of a DRAM at a place in them
abbrev pub with_dram : (bytes : List ℕ) → (at : ℕ) → (dram : List ℕ) → List ℕ
with_dram bytes at dram = take at bytes ++ (dram_bytes dram ++ drop at bytes)

-- bytes stand in front of a room, and what lies past them is as before
pub record IsWritten (bytes before after : List ℕ) : Type 0 where
  pub fits : length bytes ≤ length before
  pub written : after ≡ bytes ++ drop (length bytes) before

-- how a save ends: the bytes stand in front of the room, and are counted; there is no memory; or the bytes do not fit,
-- but are counted
abbrev pub IsSaveEnd : {T : Type 0} → Result T Refusal → (image before after : List ℕ) → (count_before count : ℕ) →
    Type 0
IsSaveEnd (Ok done) image before after count_before count = IsWritten image before after × (count ≡ length image)
IsSaveEnd (Err NoMemory) image before after count_before count = (after ≡ before) × (count ≡ count_before)
IsSaveEnd (Err NoRoom) image before after count_before count =
    (after ≡ before) × (length before < length image) × (count ≡ length image)
IsSaveEnd _ image before after count_before count = ⊥

-- the bytes are those of no board
abbrev pub AreNoImage : List ℕ → Type 0
AreNoImage bytes = (saved : Saved) → IsSavedState saved → bytes ≢ image_bytes saved

-- why none is loaded: there is no memory; the bytes are of another version; or they are those of no board
pub record IsBadImage (bytes : List ℕ) (why : Refusal) : Type 0 where
  pub none : AreNoImage bytes
  pub cause : ((why ≡ BadImage) × ¬ IsOtherVersion bytes) ⊎ ((why ≡ OtherVersion) × IsOtherVersion bytes)

abbrev pub IsLoadRefusal : List ℕ → Refusal → Type 0
IsLoadRefusal bytes why = (why ≡ NoMemory) ⊎ IsBadImage bytes why
