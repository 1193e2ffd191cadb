-- The edge/level control registers: ELCR1 at port 4D0h for lines 0 to 7 and ELCR2 at port 4D1h for lines 8 to 15. A bit
-- at 1 says that its line is level triggered (82371SB, ELCR: Edge/Level Control Registers).
use Rattle.std.specs.Prelude.{ℕ, Bool, if◌then◌else◌}
use Rattle.board_base.specs.Bits.{merged}

-- the two bytes
pub record Triggers : Type 0 where
  pub low : ℕ
  pub high : ℕ

-- the bits that can be written: lines 0, 1, 2, 8 and 13 stay edge triggered (82371SB, ELCR)
abbrev pub low_trigger_mask : ℕ
low_trigger_mask = 0xF8

abbrev pub high_trigger_mask : ℕ
high_trigger_mask = 0xDE

-- each line edge triggered, as after a reset
abbrev pub triggers_at_reset : Triggers
triggers_at_reset = record { low = 0; high = 0 }

-- the byte of lines 0 to 7, or the byte of lines 8 to 15
abbrev pub trigger_byte : Triggers → Bool → ℕ
trigger_byte triggers is_high = if is_high then triggers.high else triggers.low

-- the bytes after a write of one of them
abbrev pub triggers_after_write : Triggers → Bool → ℕ → Triggers
triggers_after_write triggers is_high byte =
    if is_high
    then record triggers { high = merged high_trigger_mask triggers.high byte }
    else record triggers { low = merged low_trigger_mask triggers.low byte }
