-- What a hard reset leaves.
use Rattle.std.specs.Prelude.{ℕ, ◌≡◌, true, List, ◌∷◌}
use Rattle.board_prelude.specs.{Reg, triggers_at_reset, reset as timer_at_reset, after_reset as clock_after_reset}
use Rattle.board_prelude.specs.{pair_at_reset, Entry, Setup, reset_byte, is_hard_reset, reset_control, config_address}
use Rattle.board_prelude.specs.{byte_of, Cell, stored_of, wire_of, irq_of, triggers_of, plain_at_reset, plain_of}
use Rattle.board_prelude.specs.{timer_of, clock_of, disk_with, levels_of, pair_of, IsNext}
use Rattle.device_spec.specs.Ata.Steps.{after_reset as disk_after_reset}

-- every register and device is in its reset state, and the pair sees the lines as they stand
pub record IsBoardAtReset (setup : Setup) (before history : List Entry) : Type 0 where
  pub registers : (reg : Reg) → byte_of setup history reg ≡ reset_byte setup reg
  pub address : config_address history ≡ 0
  pub control : reset_control history ≡ 0
  pub triggers : triggers_of history ≡ triggers_at_reset
  pub plain : plain_of history ≡ plain_at_reset
  pub timer : timer_of history ≡ timer_at_reset
  pub clock : clock_of history ≡ clock_after_reset (clock_of before)
  pub disk : (bytes : List ℕ) → disk_with bytes history ≡ disk_after_reset (disk_with bytes before)
  pub pair : pair_of setup history ≡ pair_at_reset (levels_of setup history)

-- the bytes of DRAM and of the cards, and the levels from outside, are as before
pub record StaysAtReset (before history : List Entry) : Type 0 where
  pub cells : (cell : Cell) → stored_of history cell ≡ stored_of before cell
  pub wires : (dev : ℕ) → wire_of history dev ≡ wire_of before dev
  pub lines : (line : ℕ) → irq_of history line ≡ irq_of before line

abbrev pub HardResetResets : Type 0
HardResetResets =
    (setup : Setup) (before : List Entry) (entry : Entry) →
    is_hard_reset before entry.event ≡ true → IsBoardAtReset setup before (entry ∷ before)

abbrev pub HardResetKeeps : Type 0
HardResetKeeps =
    (setup : Setup) (before : List Entry) (entry : Entry) → IsNext setup before entry →
    is_hard_reset before entry.event ≡ true → StaysAtReset before (entry ∷ before)
