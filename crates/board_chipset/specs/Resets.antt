-- Which reset an event makes at the reset control register, port CF9h of the 82371SB.
use Rattle.std.specs.Prelude.{ℕ, Bool, not, ◌&&◌, if◌then◌else◌, List, Option, Some, None}
use Rattle.board_prelude.specs.{Event, Entry, is_bit, reset_control, control_written, is_hard_value}
use Rattle.board_chipset.specs.declared.reset_control.ResetKind.{ResetKind}
use Rattle.board_chipset.specs.declared.reset_control.ResetKind.TheVariants.{None as NoReset, Soft, Hard}

-- a write of this value resets the processor alone where bit 2 is set and was not, and bit 1 is not set
abbrev pub is_soft_value : ℕ → ℕ → Bool
is_soft_value control value = is_bit value 2 && not (is_bit value 1) && not (is_bit control 2)

-- the reset that a write of this value makes
abbrev pub reset_by : ℕ → ℕ → ResetKind
reset_by control value =
    if is_hard_value control value then Hard else if is_soft_value control value then Soft else NoReset

abbrev pub reset_by_written : ℕ → Option ℕ → ResetKind
reset_by_written control None = NoReset
reset_by_written control (Some value) = reset_by control value

-- the reset that an event after a history makes
abbrev pub reset_of : List Entry → Event → ResetKind
reset_of before event = reset_by_written (reset_control before) (control_written event)
