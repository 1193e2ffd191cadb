-- Bytes that are written to a chipset from outside: the entries that would have written them.
use Rattle.std.specs.Prelude.{ℕ, ◌≡◌, ◌+◌, Bool, List, [], ◌∷◌, length, slice_index, Option, Some, None}
use Rattle.board_prelude.specs.{Write, One, Target, Denial, clock_index_port, clock_data_port, Memory, Port, Bus, Entry}
use Rattle.board_prelude.specs.{DramCell, first_cell, clock_of, device_reached}
use Rattle.board_base.specs.declared.target.Dev.TheVariants.{Clock as ClockChip}
use Rattle.board_devices.specs.Outside.{byte_out}

-- an entry writes one byte at an address, and its reply says that the byte went to the DRAM
pub record IsDramWrite (addr byte : ℕ) (entry : Entry) : Type 0 where
  pub smm : Bool
  pub target : Target
  pub denial : Option Denial
  pub event :
      entry.event ≡ Memory (record { kind = Write; addr = addr; width = One; smm = smm; value = byte })
  pub reply : entry.reply ≡ Bus None target denial
  pub in_dram : first_cell target addr ≡ Some (DramCell addr)

-- each entry writes the next byte: the one that has k before it writes byte k
unfoldable pub WriteInTurn : (addr : ℕ) → (bytes : List ℕ) → List Entry → Type 0
WriteInTurn addr bytes [] = Unit {0}
WriteInTurn addr bytes (entry ∷ earlier) =
    IsDramWrite (addr + length earlier) (slice_index bytes (length earlier)) entry × WriteInTurn addr bytes earlier

-- entries, newest first, write all these bytes from an address on
pub record WriteAll (addr : ℕ) (bytes : List ℕ) (entries : List Entry) : Type 0 where
  pub all : length entries ≡ length bytes
  pub each : WriteInTurn addr bytes entries

-- an entry writes a byte at a port of the clock, and its reply says that the clock took it
pub record IsClockWrite (port byte : ℕ) (entry : Entry) : Type 0 where
  pub event : entry.event ≡ Port (byte_out port byte)
  pub reached : device_reached entry.reply ≡ Some ClockChip

-- Three entries write a byte of the clock: the address to port 70h, the byte to port 71h, and the index as it was
-- before to port 70h. The history after them is `later`.
pub record WriteClockByte (history : List Entry) (address byte : ℕ) (later : List Entry) : Type 0 where
  pub to_address : Entry
  pub to_byte : Entry
  pub back : Entry
  pub are_last : later ≡ back ∷ to_byte ∷ to_address ∷ history
  pub first : IsClockWrite clock_index_port address to_address
  pub second : IsClockWrite clock_data_port byte to_byte
  pub third : IsClockWrite clock_index_port (clock_of history).index back
