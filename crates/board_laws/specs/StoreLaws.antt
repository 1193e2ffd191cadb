-- What a byte of DRAM or of a card holds, said of whole histories.
use Rattle.std.specs.Prelude.{ℕ, zero, suc, ◌≡◌, ◌+◌, ◌*◌, ◌<◌, ◌≤◌, ◌⊎◌, false, true, List, ◌∷◌, ◌++◌, All, Option}
use Rattle.std.specs.Prelude.{Some, None}
use Rattle.board_prelude.specs.{Width, WideAccess, Wide, largest_of, Card, Entry, Setup, OutsideBase, card_at, rom_base}
use Rattle.board_prelude.specs.{base_of_card, value_at, byte, IsWideAccess, parts_of, Cell, DramCell, CardCell}
use Rattle.board_prelude.specs.{first_cell, entry_put, is_write, stored_of, dram_byte, memory_target, wide_value}
use Rattle.board_prelude.specs.{IsNext}

-- what an entry puts in a cell
abbrev pub put_by : Cell → Entry → Option ℕ
put_by cell entry = entry_put entry.event entry.reply cell

-- no entry of a history puts a byte in the cell
abbrev pub LeaveCell : Cell → List Entry → Type 0
LeaveCell cell history = All (λ entry. put_by cell entry ≡ None) history

-- a cell holds the byte of the last entry that put one there
abbrev pub LastStays : Type 0
LastStays =
    (newer older : List Entry) (entry : Entry) (cell : Cell) (written : ℕ) →
    put_by cell entry ≡ Some written → LeaveCell cell newer → stored_of (newer ++ entry ∷ older) cell ≡ written

-- and 0 where no entry did
abbrev pub NothingStored : Type 0
NothingStored = (history : List Entry) (cell : Cell) → LeaveCell cell history → stored_of history cell ≡ 0

-- of a base whose bytes the board does not keep every read gives ones, whatever was written
abbrev pub OutsideGivesOnes : Type 0
OutsideGivesOnes =
    (setup : Setup) (before : List Entry) (dev base bits off place : ℕ) (width : Width) →
    base < rom_base → base_of_card (card_at setup dev) base ≡ Some (OutsideBase bits) →
    value_at setup before (Card dev base off) place width ≡ largest_of width

-- each part of a wide access lands in DRAM, where bytes are stored by their addresses
abbrev pub LandsInDram : Setup → List Entry → WideAccess → Type 0
LandsInDram setup before access =
    All (λ part. first_cell (memory_target setup before part) part.addr ≡ Some (DramCell part.addr)) (parts_of access)

-- the number that this many bytes make, the first of them in the low bits
abbrev pub low_first : (ℕ → ℕ) → (from count : ℕ) → ℕ
low_first byte_at from zero = 0
low_first byte_at from (suc count) = byte_at from + 0x100 * low_first byte_at (from + 1) count

-- a wide read of DRAM gives the bytes from its address on
abbrev pub WideReads : Type 0
WideReads =
    (setup : Setup) (before : List Entry) (access : WideAccess) → IsWideAccess access → is_write access.kind ≡ false →
    LandsInDram setup before access →
    wide_value setup before access ≡ Some (low_first (dram_byte setup before) access.addr access.bytes)

-- the bytes of a wide write lie in DRAM, the low one at its first address, and nothing else changes
pub record IsStoredWide (before history : List Entry) (access : WideAccess) : Type 0 where
  pub within : (k : ℕ) → k < access.bytes → stored_of history (DramCell (access.addr + k)) ≡ byte access.value k
  pub outside :
      (addr : ℕ) → (addr < access.addr) ⊎ (access.addr + access.bytes ≤ addr) →
      stored_of history (DramCell addr) ≡ stored_of before (DramCell addr)
  pub cards : (dev base off : ℕ) → stored_of history (CardCell dev base off) ≡ stored_of before (CardCell dev base off)

abbrev pub WideStored : Type 0
WideStored =
    (setup : Setup) (before : List Entry) (entry : Entry) (access : WideAccess) →
    IsNext setup before entry → entry.event ≡ Wide access → IsWideAccess access → is_write access.kind ≡ true →
    LandsInDram setup before access → IsStoredWide before (entry ∷ before) access
