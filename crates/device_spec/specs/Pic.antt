-- One 8259A interrupt controller, by its datasheet. What the datasheet leaves open is marked as this
-- board's choice.
use Rattle.std.specs.Prelude.{ℕ, Bool, true, false, Option, Some, None, List, [], ◌∷◌, ◌++◌, ◌+◌, ◌*◌, ◌/◌, ◌%◌, ◌==◌}
use Rattle.std.specs.Prelude.{◌&&◌, ◌||◌, not, take, drop, if◌then◌else◌}
use Rattle.std.specs.List.{find, list_any}
use Rattle.board_base.specs.Bits.{is_bit}
use Rattle.device_spec.specs.Levels.{Levels, all_levels, has, levels_where, no_levels, with_level, without_level}
use Rattle.device_spec.specs.Levels.{levels_of_byte, byte_of_levels}

-- the input of the master to which the slave is wired (82371SB, Interrupt Controller: IRQ2)
abbrev pub cascade : ℕ
cascade = 2

-- the level that is lowest after a reset and after ICW1 (8259A, Initialization Command Words 1 and 2), and whose vector
-- a spurious answer gives (8259A, Interrupt Sequence)
abbrev pub last_level : ℕ
last_level = 7

-- the initialisation command words that follow ICW1 (8259A, Initialization Command Words)
pub data Word : Type 0 where
  Icw2 : Word
  Icw3 : Word
  Icw4 : Word

-- The state of a chip: whether a slave is wired to it; the base of its vectors; the sets of masked
-- levels (IMR), of levels in service (ISR) and of edges latched; the levels of its inputs and which of
-- them are level triggered, as last given; the words still awaited, and whether a sequence of them was
-- ever completed; the modes; the level of lowest priority; whether the next read polls; and whether a
-- read of the even port gives the ISR or the IRR.
pub record Chip : Type 0 where
  pub has_slave : Bool
  pub base : ℕ
  pub masked : Levels
  pub in_service : Levels
  pub latches : Levels
  pub inputs : Levels
  pub triggers : Levels
  pub awaited : List Word
  pub is_ready : Bool
  pub auto_eoi : Bool
  pub fully_nested : Bool
  pub rotates : Bool
  pub special_mask : Bool
  pub lowest : ℕ
  pub polls : Bool
  pub reads_in_service : Bool

-- a chip after a reset, with its inputs at these levels
abbrev pub chip_at_reset : Bool → Levels → Chip
chip_at_reset has_slave inputs =
    record {
      has_slave = has_slave;
      base = 0;
      masked = no_levels;
      in_service = no_levels;
      latches = no_levels;
      inputs = inputs;
      triggers = no_levels;
      awaited = [];
      is_ready = false;
      auto_eoi = false;
      fully_nested = false;
      rotates = false;
      special_mask = false;
      lowest = last_level;
      polls = false;
      reads_in_service = false;
    }

-- ---- inputs

-- A rise of an input sets its latch (8259A, Edge and Level Triggered Modes). A fall clears it (this board's choice).
abbrev pub latches_after : Levels → Levels → Levels → Levels
latches_after latches before now =
    levels_where (λ level.
    (has latches level || (has now level && not (has before level)))
    && not (has before level && not (has now level)))

-- a chip whose inputs take these levels, with these of them level triggered
abbrev pub chip_after_inputs : Chip → Levels → Levels → Chip
chip_after_inputs chip inputs triggers =
    record chip { latches = latches_after chip.latches chip.inputs inputs; inputs = inputs; triggers = triggers }

-- the pending levels (IRR): of the level triggered ones the inputs at 1, of the others the latches
-- (8259A, Edge and Level Triggered Modes)
unfoldable pub pending : Chip → Levels
pending chip =
    levels_where (λ level. if has chip.triggers level then has chip.inputs level else has chip.latches level)

-- ---- priority

-- the levels from the highest priority to the lowest: those after the lowest, and round to it
-- (8259A, Automatic Rotation and Specific Rotation)
abbrev pub priority_order : ℕ → List ℕ
priority_order lowest = drop (lowest + 1) all_levels ++ take (lowest + 1) all_levels

-- whether a level is in service and so blocks; in special mask mode a masked one does not (8259A, Special Mask Mode)
abbrev pub is_blocking : Chip → ℕ → Bool
is_blocking chip level = has chip.in_service level && not (chip.special_mask && has chip.masked level)

-- In special fully nested mode the level of a slave does not block itself (8259A, The Special Fully Nested Mode).
abbrev pub blocks_itself : Chip → ℕ → Bool
blocks_itself chip level =
    is_blocking chip level && not (chip.fully_nested && (chip.has_slave && (level == cascade)))

-- whether a level is pending and not masked (8259A, Interrupt Masks)
abbrev pub is_requested : Chip → ℕ → Bool
is_requested chip level = has (pending chip) level && not (has chip.masked level)

-- Whether a level can be selected after the given levels of higher priority: where it is requested, and
-- neither one of them nor the level itself blocks it (8259A, Fully Nested Mode).
abbrev pub is_selectable : Chip → List ℕ → ℕ → Bool
is_selectable chip higher level =
    is_requested chip level && not (list_any (is_blocking chip) higher || blocks_itself chip level)

-- the first level that can be selected of the rest of an order, after the given levels
unfoldable pub first_selectable : Chip → List ℕ → List ℕ → Option ℕ
first_selectable chip higher [] = None
first_selectable chip higher (level ∷ lower) =
    if is_selectable chip higher level then Some level else first_selectable chip (higher ++ level ∷ []) lower

-- the level that the chip requests service for (8259A, Priority Resolver)
unfoldable pub request : Chip → Option ℕ
request chip = first_selectable chip [] (priority_order chip.lowest)

-- the level that its output INT stands for, where INT is 1: a chip that is not ready holds it at 0
abbrev pub interrupt : Chip → Option ℕ
interrupt chip = if chip.is_ready then request chip else None

-- ---- acknowledge

-- a chip whose level was acknowledged (8259A, Interrupt Sequence; Automatic End of Interrupt Mode; Automatic Rotation)
abbrev pub acknowledged : Chip → ℕ → Chip
acknowledged chip level =
    record chip {
      in_service = if chip.auto_eoi then chip.in_service else with_level chip.in_service level;
      latches = without_level chip.latches level;
      lowest = if chip.auto_eoi && chip.rotates then level else chip.lowest;
    }

-- the same, where there is a level
abbrev pub acknowledged_if : Chip → Option ℕ → Chip
acknowledged_if chip None = chip
acknowledged_if chip (Some level) = acknowledged chip level

-- ---- writes at the even port

-- ICW1 begins a sequence: ICW2, then ICW3 where bit 1 is 0, then ICW4 where bit 0 is 1
-- (8259A, Initialization Command Words).
abbrev pub words_after_icw1 : ℕ → List Word
words_after_icw1 byte =
    Icw2 ∷ ((if is_bit byte 1 then [] else Icw3 ∷ []) ++ (if is_bit byte 0 then Icw4 ∷ [] else []))

-- What ICW1 clears (8259A, Initialization Command Words 1 and 2): the edge sense circuit is reset (a), the mask is
-- cleared (b), IR7 has the lowest priority (c), special mask mode is cleared and a read gives the IRR (e), and what
-- ICW4 selects is zero where IC4 is 0 (f). The datasheet does not say what becomes of the levels in service, of
-- rotation and of a poll, nor of automatic EOI and special fully nested mode until an awaited ICW4 is written. That
-- they are cleared too is this board's choice (docs/DECISIONS.md, Interrupt controllers).
abbrev pub chip_after_icw1 : Chip → ℕ → Chip
chip_after_icw1 chip byte =
    record chip {
      masked = no_levels;
      in_service = no_levels;
      latches = no_levels;
      awaited = words_after_icw1 byte;
      auto_eoi = false;
      fully_nested = false;
      rotates = false;
      special_mask = false;
      lowest = last_level;
      polls = false;
      reads_in_service = false;
    }

-- the level that a non-specific end of interrupt is for: the first that blocks (8259A, End of Interrupt; Special Mask
-- Mode: a masked one in service is not ended so)
unfoldable pub first_blocking : Chip → Option ℕ
first_blocking chip = find (is_blocking chip) (priority_order chip.lowest)

-- a chip whose level left service, and became the lowest where it rotates (8259A, End of Interrupt; Automatic Rotation)
abbrev pub ended : Bool → Chip → Option ℕ → Chip
ended rotates chip None = chip
ended rotates chip (Some level) =
    record chip {
      in_service = without_level chip.in_service level;
      lowest = if rotates then level else chip.lowest;
    }

-- OCW2, by its bits 7 to 5 (R, SL and EOI), with the level of its bits 2 to 0 (8259A, Operation Control Word 2)
abbrev pub chip_after_ocw2 : Chip → ℕ → ℕ → Chip
chip_after_ocw2 chip command level =
    -- non-specific EOI
    if command == 0b001 then ended false chip (first_blocking chip)
    -- specific EOI
    else if command == 0b011 then ended false chip (Some level)
    -- rotate on non-specific EOI
    else if command == 0b101 then ended true chip (first_blocking chip)
    -- rotate on specific EOI
    else if command == 0b111 then ended true chip (Some level)
    -- rotate in automatic EOI mode: set, clear
    else if command == 0b100 then record chip { rotates = true }
    else if command == 0b000 then record chip { rotates = false }
    -- set priority
    else if command == 0b110 then record chip { lowest = level }
    -- no operation
    else chip

-- OCW3: bits 6 and 5 set or clear special mask mode, bit 2 polls, bits 1 and 0 choose what a read gives
-- (8259A, Operation Control Word 3)
abbrev pub chip_after_ocw3 : Chip → ℕ → Chip
chip_after_ocw3 chip byte =
    record chip {
      special_mask = if is_bit byte 6 then is_bit byte 5 else chip.special_mask;
      polls = is_bit byte 2 || chip.polls;
      reads_in_service = if is_bit byte 1 then is_bit byte 0 else chip.reads_in_service;
    }

-- the byte is ICW1 where bit 4 is 1, else OCW3 where bit 3 is 1, and else OCW2 (8259A, the command words at A0 = 0)
abbrev pub chip_after_even_write : Chip → ℕ → Chip
chip_after_even_write chip byte =
    if is_bit byte 4 then chip_after_icw1 chip byte
    else if is_bit byte 3 then chip_after_ocw3 chip byte
    else chip_after_ocw2 chip (byte / 32) (byte % 8)

-- ---- writes at the odd port

-- ICW2 gives the base of the vectors, ICW3 is ignored, and ICW4 gives two modes
-- (8259A, Initialization Command Words 1 and 2, 3 and 4).
abbrev pub chip_after_word : Chip → Word → ℕ → Chip
chip_after_word chip Icw2 byte = record chip { base = byte / 8 * 8 }
chip_after_word chip Icw3 byte = chip
chip_after_word chip Icw4 byte = record chip { auto_eoi = is_bit byte 1; fully_nested = is_bit byte 4 }

-- once a sequence is complete, the chip is ready until a reset
abbrev pub is_complete : List Word → Bool
is_complete [] = true
is_complete (word ∷ later) = false

-- the first awaited word, or else OCW1, the mask (8259A, Operation Control Word 1)
abbrev pub chip_after_odd_write : Chip → List Word → ℕ → Chip
chip_after_odd_write chip [] byte = record chip { masked = levels_of_byte byte }
chip_after_odd_write chip (word ∷ later) byte =
    chip_after_word (record chip { awaited = later; is_ready = chip.is_ready || is_complete later }) word byte

-- a chip after a write at its even or odd port
unfoldable pub chip_after_write : Chip → Bool → ℕ → Chip
chip_after_write chip is_odd byte =
    if is_odd then chip_after_odd_write chip chip.awaited byte else chip_after_even_write chip byte

-- ---- reads

-- A poll is a read that acknowledges this chip alone: bit 7 and the level where there is one
-- (8259A, Poll Command), else 0 (this board's choice).
abbrev pub byte_polled : Option ℕ → ℕ
byte_polled None = 0
byte_polled (Some level) = 0x80 + level

-- what a read of the even or the odd port gives: the pending levels or those in service, and the mask
-- (8259A, Reading the 8259A Status)
unfoldable pub byte_read : Chip → Bool → ℕ
byte_read chip is_odd =
    if chip.polls then byte_polled (interrupt chip)
    else byte_of_levels
    (if is_odd then chip.masked else if chip.reads_in_service then chip.in_service else pending chip)

-- a chip after a read (8259A, Poll Command)
unfoldable pub chip_after_read : Chip → Chip
chip_after_read chip =
    if chip.polls then record (acknowledged_if chip (interrupt chip)) { polls = false } else chip
