-- The two 8259As of a PC: the master at ports 20h and 21h has the lines 0 to 7, the slave at A0h and
-- A1h has the lines 8 to 15, and the slave's INT is input 2 of the master (8259A, Cascade Mode; 82371SB, Interrupt
-- Controller).
use Rattle.std.specs.Prelude.{ℕ, Bool, true, false, Option, Some, None, List, ◌∷◌, ◌+◌, ◌/◌, ◌%◌, ◌==◌, is_some, take}
use Rattle.std.specs.Prelude.{drop, replicate, if◌then◌else◌}
use Rattle.board_base.specs.Bits.{is_bit}
use Rattle.device_spec.specs.Levels.{Levels, with_level, without_level, levels_of_byte}
use Rattle.device_spec.specs.Pic.{cascade, last_level, Chip, chip_at_reset, chip_after_inputs, chip_after_write}
use Rattle.device_spec.specs.Pic.{byte_read, chip_after_read, interrupt, acknowledged, acknowledged_if}

pub record Pair : Type 0 where
  pub master : Chip
  pub slave : Chip

-- Line 2 reaches no input: input 2 of the master is the slave's, and has a latch of its own.
abbrev pub master_inputs : Levels → Levels
master_inputs levels = without_level levels cascade

-- The slave's INT at 1 sets the latch of input 2 (8259A, Cascade Mode); its fall does not clear it (this board's
-- choice).
abbrev pub settled : Pair → Pair
settled pair =
    if is_some (interrupt pair.slave)
    then record pair { master = record pair.master { latches = with_level pair.master.latches cascade } }
    else pair

-- the pair after a reset, with the sixteen lines at these levels
abbrev pub pair_at_reset : List Bool → Pair
pair_at_reset levels =
    record {
      master = chip_at_reset true (master_inputs (take 8 levels));
      slave = chip_at_reset false (drop 8 levels);
    }

-- the lines at power-on: the timer's is 1
abbrev pub levels_at_power_on : List Bool
levels_at_power_on = true ∷ replicate 15 false

-- the pair whose lines take these levels, with the bits of the edge/level control registers
abbrev pub pair_after_lines : Pair → List Bool → ℕ → Pair
pair_after_lines pair levels elcr =
    settled (record {
      master =
          chip_after_inputs pair.master (master_inputs (take 8 levels)) (master_inputs (levels_of_byte (elcr % 256)));
      slave = chip_after_inputs pair.slave (drop 8 levels) (levels_of_byte (elcr / 256));
    })

-- ---- ports

-- bit 7 of the port chooses the chip, and bit 0 is its input A0 (82371SB, Interrupt Controller registers)
abbrev pub is_slave_port : ℕ → Bool
is_slave_port port = is_bit port 7

abbrev pub is_odd_port : ℕ → Bool
is_odd_port port = is_bit port 0

-- a write changes one chip, and its INT may rise
abbrev pub pair_written : Pair → ℕ → ℕ → Pair
pair_written pair port byte =
    if is_slave_port port
    then record pair { slave = chip_after_write pair.slave (is_odd_port port) byte }
    else record pair { master = chip_after_write pair.master (is_odd_port port) byte }

abbrev pub pair_after_write : Pair → ℕ → ℕ → Pair
pair_after_write pair port byte = settled (pair_written pair port byte)

abbrev pub port_byte : Pair → ℕ → ℕ
port_byte pair port = byte_read (if is_slave_port port then pair.slave else pair.master) (is_odd_port port)

-- and so does a read, since it may poll
abbrev pub pair_read : Pair → ℕ → Pair
pair_read pair port =
    if is_slave_port port
    then record pair { slave = chip_after_read pair.slave }
    else record pair { master = chip_after_read pair.master }

abbrev pub pair_after_read : Pair → ℕ → Pair
pair_after_read pair port = settled (pair_read pair port)

-- ---- acknowledge

-- what answers an acknowledge: the vector, the chip that gave it, 0 the master and 1 the slave, and
-- whether it is spurious
pub record Answer : Type 0 where
  pub vector : ℕ
  pub chip : ℕ
  pub is_spurious : Bool

-- A chip answers with its base plus the level, or spuriously with its base plus the last level
-- (8259A, Interrupt Sequence).
abbrev pub chip_answer : ℕ → Chip → Option ℕ → Answer
chip_answer number chip None = record { vector = chip.base + last_level; chip = number; is_spurious = true }
chip_answer number chip (Some level) = record { vector = chip.base + level; chip = number; is_spurious = false }

-- The master answers, and the slave where the master's level is 2 (8259A, Cascade Mode).
abbrev pub answer_at : Pair → Option ℕ → Answer
answer_at pair None = chip_answer 0 pair.master None
answer_at pair (Some level) =
    if level == cascade then chip_answer 1 pair.slave (interrupt pair.slave) else chip_answer 0 pair.master (Some level)

unfoldable pub answer_of : Pair → Answer
answer_of pair = answer_at pair (interrupt pair.master)

-- Where the master has a level, it is acknowledged, and for level 2 the slave's own one too (8259A, Cascade Mode). A
-- spurious answer changes no set of the chip that gives it (this board's choice).
abbrev pub pair_acknowledged : Pair → ℕ → Pair
pair_acknowledged pair level =
    record {
      master = acknowledged pair.master level;
      slave = if level == cascade then acknowledged_if pair.slave (interrupt pair.slave) else pair.slave;
    }

abbrev pub pair_acknowledged_at : Pair → Option ℕ → Pair
pair_acknowledged_at pair None = pair
pair_acknowledged_at pair (Some level) = settled (pair_acknowledged pair level)

unfoldable pub pair_after_acknowledge : Pair → Pair
pair_after_acknowledge pair = pair_acknowledged_at pair (interrupt pair.master)
