-- The bytes of a chipset, out and in.
use Rattle.std.specs.Prelude.{ℕ, ◌≡◌, ◌≢◌, ◌+◌, ◌<◌, ◌≤◌, ◌⊎◌, List, ◌++◌, length, slice_index, Option, IfSome, IsSomeAnd}
use Rattle.board_prelude.specs.{Disk, sectors_of, sector_bytes, Entry, clock_of, disk_of, installed, dram_byte}
use Rattle.dram_store.specs.Dram.{dram_at}
use Rattle.cmos_clock.specs.Outside.{peeked}
use Rattle.board_chipset.specs.Chipset.{Running, IsLeftBy}
use Rattle.board_chipset.specs.Loads.{WriteAll, WriteClockByte}
use Rattle.uart_16550.specs.Serial.{Serial, AreOwn}
use Rattle.machine_records.specs.Statuses.{no_sector, bad_length}
use Rattle.machine_records.specs.Steps.{IsHistoryOf}

-- the bytes of the DRAM from an address on, as reads give them: FFh past the installed memory
pub record IsDramRead (chipset : Running) (addr : ℕ) (before after : List ℕ) : Type 0 where
  pub size : length after ≡ length before
  pub held : (k : ℕ) → k < length before → slice_index after k ≡ dram_at chipset.state.stores.dram (addr + k)
  pub bytes : (history : List Entry) (k : ℕ) → IsLeftBy chipset history → k < length before →
      slice_index after k ≡ dram_byte chipset.setup history (addr + k)

-- the bytes of a sector that a disk has, bad or not
abbrev pub IsSectorOf : Option Disk → (sector : ℕ) → List ℕ → Type 0
IsSectorOf fitted sector bytes =
    IsSomeAnd fitted (λ disk. (sector < sectors_of disk.medium) × (bytes ≡ sector_bytes disk.medium sector))

-- a sector of the disk that the chipset holds, which is each history's that left it so
pub record IsSectorRead (chipset : Running) (sector : ℕ) (bytes : List ℕ) : Type 0 where
  pub held : IsSectorOf chipset.state.devices.disk sector bytes
  pub left : (history : List Entry) → IsLeftBy chipset history →
      IsSectorOf (disk_of chipset.setup history) sector bytes

-- why none are told: there is no disk, or it has no such sector; or it has the sector, and there is not the room of it
abbrev pub IsSectorMissing : Option Disk → (sector room status : ℕ) → Type 0
IsSectorMissing fitted sector room status =
    ((status ≡ no_sector) × IfSome fitted (λ disk. sectors_of disk.medium ≤ sector)) ⊎
    ((status ≡ bad_length) ×
    IsSomeAnd fitted (λ disk. (sector < sectors_of disk.medium) × (room ≢ length (sector_bytes disk.medium sector))))

-- why none are told of the disk that the chipset holds
pub record IsSectorRefusal (chipset : Running) (sector room status : ℕ) : Type 0 where
  pub held : IsSectorMissing chipset.state.devices.disk sector room status
  pub left : (history : List Entry) → IsLeftBy chipset history →
      IsSectorMissing (disk_of chipset.setup history) sector room status

-- these bytes stand in the DRAM from an address on, as if processors had written them one after another
pub record IsDramWritten (old new : Serial Running) (addr : ℕ) (bytes : List ℕ) : Type 0 where
  pub within : addr + length bytes ≤ installed old.board.setup
  pub setup : new.board.setup ≡ old.board.setup
  pub com1 : new.com1 ≡ old.com1
  pub left : (history entries : List Entry) → IsHistoryOf old history → WriteAll addr bytes entries → AreOwn entries →
      IsHistoryOf new (entries ++ history)

-- how many bytes the clock has
abbrev pub clock_bytes : ℕ
clock_bytes = 128

-- what a read of port 71h would give with this index
pub record IsClockByte (chipset : Running) (address byte : ℕ) : Type 0 where
  pub held : byte ≡ peeked chipset.state.devices.clock address
  pub left : (history : List Entry) → IsLeftBy chipset history → byte ≡ peeked (clock_of history) address

-- this byte stands in the clock, as if a processor had written it
pub record IsClockWritten (old new : Serial Running) (address byte : ℕ) : Type 0 where
  pub within : address < clock_bytes
  pub setup : new.board.setup ≡ old.board.setup
  pub com1 : new.com1 ≡ old.com1
  pub left : (history later : List Entry) → IsHistoryOf old history → WriteClockByte history address byte later →
      AreOwn later → IsHistoryOf new later
