-- What follows from the definitions of one chip and of the pair.
use Rattle.std.specs.Prelude.{◌≡◌, ◌≢◌, ℕ, Bool, true, false, Some, List, ◌∷◌, ◌++◌, ◌+◌, ◌-◌, ◌/◌, ◌%◌, ◌<◌, ◌≤◌, ◌&&◌}
use Rattle.std.specs.Prelude.{not, is_some, slice_index}
use Rattle.board_prelude.specs.{list_all, has, cascade, last_level, Chip, priority_order, is_blocking, blocks_itself}
use Rattle.board_prelude.specs.{is_requested, pending, interrupt, chip_after_write, Pair, settled, is_slave_port}
use Rattle.board_prelude.specs.{pair_at_reset, pair_after_lines, pair_after_write, pair_after_read, answer_of}
use Rattle.board_prelude.specs.{pair_after_acknowledge}
use Rattle.board_base.specs.Bits.{is_bit}

-- The priorities go round from the level after the lowest to the lowest.
abbrev pub PrioritiesGoRound : Type 0
PrioritiesGoRound =
    (lowest place : ℕ) → lowest < 8 → place < 8
    → slice_index (priority_order lowest) place ≡ (lowest + 1 + place) % 8

-- A level stands in the order of priorities, is pending and not masked, does not block itself, and each
-- level of higher priority is neither requested nor blocks it.
pub record IsFirstInOrder (chip : Chip) (order : List ℕ) (level : ℕ) : Type 0 where
  pub higher : List ℕ
  pub lower : List ℕ
  pub place : order ≡ higher ++ level ∷ lower
  pub asks : is_requested chip level ≡ true
  pub free : blocks_itself chip level ≡ false
  pub first : list_all (λ other. not (is_requested chip other) && not (is_blocking chip other)) higher ≡ true

-- INT stands for a level only where none of higher priority is to be served, or still is.
abbrev pub InterruptIsFirst : Type 0
InterruptIsFirst =
    (chip : Chip) (level : ℕ) → interrupt chip ≡ Some level → IsFirstInOrder chip (priority_order chip.lowest) level

-- INT never stands for a masked level.
abbrev pub MaskedLevelsWait : Type 0
MaskedLevelsWait = (chip : Chip) (level : ℕ) → interrupt chip ≡ Some level → has chip.masked level ≡ false

-- Without automatic end of interrupt, the level that is acknowledged is in service from then on.
abbrev pub AcknowledgedIsInService : Type 0
AcknowledgedIsInService =
    (pair : Pair) (level : ℕ) → interrupt pair.master ≡ Some level → pair.master.auto_eoi ≡ false
    → has (pair_after_acknowledge pair).master.in_service level ≡ true

abbrev pub AcknowledgedSlaveIsInService : Type 0
AcknowledgedSlaveIsInService =
    (pair : Pair) (level : ℕ) → interrupt pair.master ≡ Some 2 → interrupt pair.slave ≡ Some level
    → pair.slave.auto_eoi ≡ false → has (pair_after_acknowledge pair).slave.in_service level ≡ true

-- the place of a level in the order of priorities: 0 is the highest, and that of the lowest level 7
abbrev pub place_of : (lowest level : ℕ) → ℕ
place_of lowest level = (level + 7 - lowest) % 8

-- A level can be selected: it is pending and not masked, does not block itself, and every other level that
-- blocks stands after it in the order.
pub record CanBeSelected (chip : Chip) (level : ℕ) : Type 0 where
  pub inside : level < 8
  pub asks : has (pending chip) level ≡ true
  pub unmasked : has chip.masked level ≡ false
  pub free : blocks_itself chip level ≡ false
  pub first :
      (other : ℕ) → other < 8 → other ≢ level → is_blocking chip other ≡ true
      → place_of chip.lowest level < place_of chip.lowest other

-- INT stands for the first of the levels that can be selected, and the chip is ready.
pub record IsSelected (chip : Chip) (level : ℕ) : Type 0 where
  pub ready : chip.is_ready ≡ true
  pub can : CanBeSelected chip level
  pub first : (other : ℕ) → CanBeSelected chip other → place_of chip.lowest level ≤ place_of chip.lowest other

abbrev pub InterruptIsSelected : Type 0
InterruptIsSelected =
    (chip : Chip) (level : ℕ) → chip.lowest < 8 → interrupt chip ≡ Some level → IsSelected chip level

-- INT is 1 wherever the chip is ready and some level can be selected.
abbrev pub SelectedInterrupts : Type 0
SelectedInterrupts =
    (chip : Chip) (level : ℕ) → chip.lowest < 8 → chip.is_ready ≡ true → CanBeSelected chip level
    → is_some (interrupt chip) ≡ true

-- A specific end of interrupt takes its level out of service, and changes nothing else.
pub record EndsOne (old new : Chip) (level : ℕ) : Type 0 where
  pub ended : has new.in_service level ≡ false
  pub others : (other : ℕ) → other < 8 → other ≢ level → has new.in_service other ≡ has old.in_service other
  pub rest : new ≡ record old { in_service = new.in_service }

abbrev pub SpecificEndEndsOne : Type 0
SpecificEndEndsOne =
    (chip : Chip) (byte : ℕ) → is_bit byte 4 ≡ false → is_bit byte 3 ≡ false → byte / 32 ≡ 0b011
    → EndsOne chip (chip_after_write chip false byte) (byte % 8)

-- A level that is served, before every other one that is. In special mask mode the masked ones do not count.
pub record IsServedFirst (chip : Chip) (level : ℕ) : Type 0 where
  pub inside : level < 8
  pub served : is_blocking chip level ≡ true
  pub first :
      (other : ℕ) → other < 8 → other ≢ level → is_blocking chip other ≡ true
      → place_of chip.lowest level < place_of chip.lowest other

-- A non-specific end of interrupt ends the first level that is served, and nothing where none is.
abbrev pub NonSpecificEndEndsFirst : Type 0
NonSpecificEndEndsFirst =
    (chip : Chip) (byte level : ℕ) → chip.lowest < 8 → is_bit byte 4 ≡ false → is_bit byte 3 ≡ false
    → byte / 32 ≡ 0b001 → IsServedFirst chip level → EndsOne chip (chip_after_write chip false byte) level

abbrev pub NonSpecificEndOfNone : Type 0
NonSpecificEndOfNone =
    (chip : Chip) (byte : ℕ) → chip.lowest < 8 → is_bit byte 4 ≡ false → is_bit byte 3 ≡ false
    → byte / 32 ≡ 0b001 → ((level : ℕ) → level < 8 → is_blocking chip level ≡ false)
    → chip_after_write chip false byte ≡ chip

-- A spurious answer has the vector of level 7, and leaves alone the chip that gives it; one of the
-- master's leaves the slave alone too.
pub record IsSpuriousAt (pair : Pair) : Type 0 where
  pub master : (answer_of pair).chip ≡ 0 →
      (pair_after_acknowledge pair ≡ pair) × ((answer_of pair).vector ≡ pair.master.base + last_level)
  pub slave : (answer_of pair).chip ≡ 1 →
      ((pair_after_acknowledge pair).slave ≡ pair.slave) × ((answer_of pair).vector ≡ pair.slave.base + last_level)

abbrev pub SpuriousLeavesAlone : Type 0
SpuriousLeavesAlone = (pair : Pair) → (answer_of pair).is_spurious ≡ true → IsSpuriousAt pair

-- Where the slave's INT is 1, the latch of the master's input 2 is set.
abbrev pub SlaveIsLatched : Pair → Type 0
SlaveIsLatched pair = is_some (interrupt pair.slave) ≡ true → has pair.master.latches cascade ≡ true

-- It is so from the reset on, whatever happens to the pair. An acknowledge keeps it, since a spurious answer
-- changes nothing.
pub record StaysLatched : Type 0 where
  pub at_reset : (levels : List Bool) → SlaveIsLatched (pair_at_reset levels)
  pub at_lines : (pair : Pair) (levels : List Bool) (elcr : ℕ) → SlaveIsLatched (pair_after_lines pair levels elcr)
  pub at_write : (pair : Pair) (port byte : ℕ) → SlaveIsLatched (pair_after_write pair port byte)
  pub at_read : (pair : Pair) (port : ℕ) → SlaveIsLatched (pair_after_read pair port)
  pub at_acknowledge : (pair : Pair) → SlaveIsLatched pair → SlaveIsLatched (pair_after_acknowledge pair)

-- A read, and so a poll, of one chip leaves the other alone, once the slave's INT has reached the master.
pub record ReadsOne (pair : Pair) (port : ℕ) : Type 0 where
  pub slave : is_slave_port port ≡ false → (pair_after_read pair port).slave ≡ pair.slave
  pub master : is_slave_port port ≡ true → settled pair ≡ pair → (pair_after_read pair port).master ≡ pair.master

abbrev pub ReadsLeaveTheOther : Type 0
ReadsLeaveTheOther = (pair : Pair) (port : ℕ) → ReadsOne pair port
