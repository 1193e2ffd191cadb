-- The bytes of expansion ROMs, out and in.
use Rattle.std.specs.Prelude.{ℕ, ◌≡◌, ◌≢◌, ◌+◌, ◌<◌, ◌≤◌, ◌^◌, ◌⊎◌, List, [], length, slice_index, Option, Some, None}
use Rattle.std.specs.Prelude.{option_and_then}
use Rattle.board_prelude.specs.{Setup, card_at}
use Rattle.machine.specs.Roms.{IsKept, given, put_byte, rom_byte}
use Rattle.machine.specs.Machines.{MachineState}
use Rattle.machine.specs.declared.refusal.Refusal.{Refusal}
use Rattle.machine.specs.declared.refusal.Refusal.TheVariants.{NoMemory, PastEnd}

-- how many bytes the expansion ROM of a card has: 0 where there is no such card, or it has none
abbrev pub size_of_rom : Option ℕ → ℕ
size_of_rom None = 0
size_of_rom (Some bits) = 2 ^ bits

abbrev pub rom_size : Setup → (dev : ℕ) → ℕ
rom_size setup dev = size_of_rom (option_and_then (λ card. card.rom) (card_at setup dev))

abbrev pub rom_size_of : MachineState → (dev : ℕ) → ℕ
rom_size_of machine dev = rom_size machine.saved.serial.board.setup dev

-- all bytes of a card's expansion ROM are kept: to change them takes no memory
abbrev pub IsRomKept : (dev : ℕ) → MachineState → Type 0
IsRomKept dev machine = IsKept machine.roms dev (rom_size_of machine dev)

-- the bytes of a card's expansion ROM from an offset on, as reads give them
pub record IsRomRead (dev off : ℕ) (before after : List ℕ) (machine : MachineState) : Type 0 where
  pub within : off + length before ≤ rom_size_of machine dev
  pub size : length after ≡ length before
  pub bytes : (k : ℕ) → k < length before → slice_index after k ≡ rom_byte machine.roms dev (off + k)

-- these bytes stand in a card's expansion ROM from an offset on, and all else is as before. With the first of them all
-- bytes of the ROM are kept
pub record IsRomWritten (dev off : ℕ) (bytes : List ℕ) (old new : MachineState) : Type 0 where
  pub within : off + length bytes ≤ rom_size_of old dev
  pub same : new.saved ≡ old.saved
  pub roms : (d at : ℕ) → rom_byte new.roms d at ≡ put_byte dev off bytes d at (rom_byte old.roms d at)
  pub kept : bytes ≢ [] → IsRomKept dev new
  pub others : (d : ℕ) → d ≢ dev → given new.roms d ≡ given old.roms d

-- why they are not: they do not all lie in it
abbrev pub IsPastRom : (dev off count : ℕ) → Refusal → MachineState → Type 0
IsPastRom dev off count why machine = (why ≡ PastEnd) × (rom_size_of machine dev < off + count)

-- or there was no memory: for some bytes, of a ROM whose bytes are not yet kept
pub record IsRomUnkept (dev off count : ℕ) (why : Refusal) (machine : MachineState) : Type 0 where
  pub cause : why ≡ NoMemory
  pub within : off + count ≤ rom_size_of machine dev
  pub some : 0 < count
  pub unkept : ¬ IsRomKept dev machine

abbrev pub IsRomRefusal : (dev off count : ℕ) → Refusal → MachineState → Type 0
IsRomRefusal dev off count why machine = IsPastRom dev off count why machine ⊎ IsRomUnkept dev off count why machine
