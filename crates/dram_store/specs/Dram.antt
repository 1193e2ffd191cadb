-- The DRAM is the list of its bytes, from address 0 on.
use Rattle.std.specs.Prelude.{ℕ, ◌≡◌, ◌+◌, ◌-◌, ◌≤◌, ◌<◌, ◌&&◌, nat_le, nat_lt, if◌then◌else◌, List, All, length}
use Rattle.std.specs.Prelude.{slice_index}
use Rattle.board_prelude.specs.{Entry, most_mib, Setup, installed, DramCell, stored_of}
use Rattle.dram_store.specs.Bank.{IsBank}

-- the banks of a DRAM, one for each MiB, and not more than a board may have
pub record AreBanks (banks : List (List ℕ)) : Type 0 where
  pub most : length banks ≤ most_mib
  pub each : All IsBank banks

-- the byte at an address, FFh at and past the end
abbrev pub dram_at : List ℕ → ℕ → ℕ
dram_at dram addr = if nat_lt addr (length dram) then slice_index dram addr else 0xFF

-- so many bytes were written from an address on: each that is installed is byte k of what was written, all others are
-- as before
abbrev pub IsWritten : (old : List ℕ) → (addr count : ℕ) → (written : ℕ → ℕ) → (new : List ℕ) → Type 0
IsWritten old addr count written new =
    (at : ℕ) → dram_at new at
    ≡
    (if nat_le addr at && nat_lt at (addr + count) && nat_lt at (length old) then written (at - addr) else
    dram_at old at)

-- these are the bytes of the DRAM after a history
pub record IsDramOf (setup : Setup) (history : List Entry) (dram : List ℕ) : Type 0 where
  pub size : length dram ≡ installed setup
  pub each : (addr : ℕ) → addr < length dram → slice_index dram addr ≡ stored_of history (DramCell addr)
