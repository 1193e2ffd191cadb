-- The bytes of cards, out and in.
use Rattle.std.specs.Prelude.{ℕ, ◌≡◌, ◌+◌, ◌<◌, ◌≤◌, ◌==◌, Bool, true, false, List, ◌++◌, length, slice_index}
use Rattle.board_prelude.specs.{Entry, card_byte, rom_base}
use Rattle.board_chipset.specs.Chipset.{Running, IsLeftBy}
use Rattle.board_chipset.specs.CardLoads.{WriteCard, card_size}
use Rattle.uart_16550.specs.Serial.{Serial, AreOwn}
use Rattle.machine.specs.CardRoms.{IsPastRom, IsRomRead, IsRomRefusal, IsRomWritten}
use Rattle.machine.specs.Machines.{MachineState}
use Rattle.machine_records.specs.FittedReplies.{IsGoneOn}
use Rattle.machine_records.specs.Statuses.{IsRefusedBy, past_end}
use Rattle.machine_records.specs.Steps.{IsHistoryOf}

-- the bytes of a base of a card from an offset on, as reads give them
pub record IsCardRead (chipset : Running) (dev base off : ℕ) (before after : List ℕ) : Type 0 where
  pub within : off + length before ≤ card_size chipset.setup dev base
  pub size : length after ≡ length before
  pub bytes : (history : List Entry) (k : ℕ) → IsLeftBy chipset history → k < length before →
      slice_index after k ≡ card_byte chipset.setup history dev base (off + k)

-- these bytes stand in a base of a card from an offset on, as if processors had written them one after another
pub record IsCardWritten (old new : Serial Running) (dev base off : ℕ) (bytes : List ℕ) : Type 0 where
  pub within : off + length bytes ≤ card_size old.board.setup dev base
  pub setup : new.board.setup ≡ old.board.setup
  pub com1 : new.com1 ≡ old.com1
  pub left : (history entries : List Entry) → IsHistoryOf old history → WriteCard dev base off bytes entries →
      AreOwn entries → IsHistoryOf new (entries ++ history)

-- they do not all lie in it
abbrev pub IsPastBase : Running → (dev base off count status : ℕ) → Type 0
IsPastBase chipset dev base off count status =
    (status ≡ past_end) × (card_size chipset.setup dev base < off + count)

-- ---- of a machine, where base 6 is the expansion ROM

abbrev pub IsReadFrom : (is_rom : Bool) → (dev base off : ℕ) → (before after : List ℕ) → MachineState → Type 0
IsReadFrom true dev base off before after machine = IsRomRead dev off before after machine
IsReadFrom false dev base off before after machine = IsCardRead machine.saved.serial.board dev base off before after

abbrev pub IsBaseRead : (dev base off : ℕ) → (before after : List ℕ) → MachineState → Type 0
IsBaseRead dev base off before after machine = IsReadFrom (base == rom_base) dev base off before after machine

abbrev pub IsNotReadFrom : (is_rom : Bool) → (dev base off count status : ℕ) → MachineState → Type 0
IsNotReadFrom true dev base off count status machine =
    IsRefusedBy (λ why. IsPastRom dev off count why machine) status
IsNotReadFrom false dev base off count status machine =
    IsPastBase machine.saved.serial.board dev base off count status

abbrev pub IsBaseUnread : (dev base off count status : ℕ) → MachineState → Type 0
IsBaseUnread dev base off count status machine = IsNotReadFrom (base == rom_base) dev base off count status machine

abbrev pub IsWrittenTo : (is_rom : Bool) → (dev base off : ℕ) → List ℕ → (old new : MachineState) → Type 0
IsWrittenTo true dev base off bytes old new = IsRomWritten dev off bytes old new
IsWrittenTo false dev base off bytes old new = IsGoneOn (λ o n. IsCardWritten o n dev base off bytes) old new

abbrev pub IsBaseWritten : (dev base off : ℕ) → List ℕ → (old new : MachineState) → Type 0
IsBaseWritten dev base off bytes old new = IsWrittenTo (base == rom_base) dev base off bytes old new

abbrev pub IsNotWrittenTo : (is_rom : Bool) → (dev base off count status : ℕ) → MachineState → Type 0
IsNotWrittenTo true dev base off count status machine =
    IsRefusedBy (λ why. IsRomRefusal dev off count why machine) status
IsNotWrittenTo false dev base off count status machine =
    IsPastBase machine.saved.serial.board dev base off count status

abbrev pub IsBaseUnwritten : (dev base off count status : ℕ) → MachineState → Type 0
IsBaseUnwritten dev base off count status machine =
    IsNotWrittenTo (base == rom_base) dev base off count status machine
