-- A transfer of the bus master: words between the sectors of the disk, from one on, and the regions of memory that a
-- table of descriptors names (82371SB, 2.7).
use Rattle.std.specs.Prelude.{ℕ, zero, suc, ◌+◌, ◌-◌, ◌*◌, ◌/◌, ◌%◌, ◌==◌, Bool, false, not, ◌&&◌, if◌then◌else◌, []}
use Rattle.std.specs.Prelude.{Option, Some, None, is_some, unwrap_or}
use Rattle.board_prelude.specs.{Width, Kind, Read, Write, Area, Denial, NoRegister, Medium, Disk, word_at, Setup}
use Rattle.board_prelude.specs.{is_bit, Bytes}
use Rattle.board_base.specs.declared.access.Width.TheVariants.{Two, Four}
use Rattle.board_base.specs.declared.target.Area.TheVariants.{Abort as NobodysArea}
use Rattle.ata_pio.specs.Words.{is_readable, with_word}
use Rattle.addr_decode.specs.Master.{master_area, master_denial}
use Rattle.board_chipset.specs.Masters.{master_target}
use Rattle.bus_master.specs.declared.done.End.{End}
use Rattle.bus_master.specs.declared.done.End.TheVariants.{Exact, Longer, Shorter, Abort, Sector}
use Rattle.bus_master.specs.declared.done.Done.{Done}
use Rattle.bus_master.specs.declared.direction.Direction.{Direction}
use Rattle.bus_master.specs.declared.direction.Direction.TheVariants.{ToMemory, ToDisk}
use Rattle.bus_master.specs.Cells.{Cells, value_in, put_in}
use Rattle.bus_master.specs.Registers.{Master, is_to_memory}

-- ---- a transfer under way

-- the address of the next descriptor; of the region in use where it goes on, how many bytes it has left, and whether
-- it is the last; and how many bytes were moved
pub record TransferPlace : Type 0 where
  pub table : ℕ
  pub addr : ℕ
  pub left : ℕ
  pub is_last : Bool
  pub moved : ℕ

-- what is behind the addresses and on the disk, how far the transfer came, and why it ended where it has
pub record Moving : Type 0 where
  pub cells : Cells
  pub medium : Medium
  pub place : TransferPlace
  pub end : Option End

abbrev pub ended : End → Moving → Moving
ended end moving = record moving { end = Some end }

-- a step, which is done unless the transfer has ended
infixl 10 ◌and_then◌
abbrev pub ◌and_then◌ : Moving → (Moving → Moving) → Moving
moving and_then step = if is_some moving.end then moving else step moving

-- ---- one access to memory

abbrev pub master_value : Setup → Bytes → Cells → (addr : ℕ) → Width → ℕ
master_value setup bytes cells addr width = value_in setup cells (master_target setup bytes Read addr) addr width

-- an access that nobody answers ends the transfer
abbrev pub abort_in : Area → (addr : ℕ) → Option Denial → Option End
abort_in NobodysArea addr denial = Some (Abort addr (unwrap_or denial NoRegister))
abort_in _ addr denial = None

unfoldable pub answered : Setup → Bytes → Kind → (addr : ℕ) → Moving → Moving
answered setup bytes kind addr moving =
    record moving { end = abort_in (master_area setup bytes addr kind) addr (master_denial setup bytes addr kind) }

-- addresses are modulo 2 ^ 32
abbrev pub address_after : (addr step : ℕ) → ℕ
address_after addr step = (addr + step) % 0x1_0000_0000

-- ---- a descriptor: two doublewords, the base of a region and its count. Bit 0 of both is taken as 0, a count of 0 is
-- 65,536 bytes, and bit 31 of the second marks the last

abbrev pub even : ℕ → ℕ
even n = n / 2 * 2

abbrev pub size_of : (count : ℕ) → ℕ
size_of count = if even (count % 0x1_0000) == 0 then 0x1_0000 else even (count % 0x1_0000)

abbrev pub with_region : (base count : ℕ) → TransferPlace → TransferPlace
with_region base count place = record place {
  table = address_after place.table 8;
  addr = even base;
  left = size_of count;
  is_last = is_bit count 31;
}

unfoldable pub region_taken : Setup → Bytes → Moving → Moving
region_taken setup bytes moving = record moving {
  place =
      with_region (master_value setup bytes moving.cells moving.place.table Four)
      (master_value setup bytes moving.cells (address_after moving.place.table 4) Four) moving.place;
}

-- both halves must be answered before it is taken
abbrev pub descriptor_read : Setup → Bytes → Moving → Moving
descriptor_read setup bytes moving =
    answered setup bytes Read moving.place.table moving
    and_then answered setup bytes Read (address_after moving.place.table 4)
    and_then region_taken setup bytes

-- ---- one word

abbrev pub is_used_up : TransferPlace → Bool
is_used_up place = place.left == 0

-- the sector of the next word, and which of its 256 words that is
abbrev pub next_sector : (lba : ℕ) → TransferPlace → ℕ
next_sector lba place = lba + place.moved / 512

abbrev pub next_word : TransferPlace → ℕ
next_word place = place.moved % 512 / 2

abbrev pub moved_on : TransferPlace → TransferPlace
moved_on place =
    record place { addr = address_after place.addr 2; left = place.left - 2; moved = place.moved + 2 }

abbrev pub kind_of : Direction → Kind
kind_of ToMemory = Write
kind_of ToDisk = Read

-- the next word of the disk is written to memory, or that of memory is set on the disk
abbrev pub word_copied : Setup → Bytes → Direction → (lba : ℕ) → Moving → Moving
word_copied setup bytes ToMemory lba moving = record moving {
  cells =
      put_in setup (master_target setup bytes Write moving.place.addr) moving.place.addr Two
      (word_at moving.medium (next_sector lba moving.place) (next_word moving.place)) moving.cells;
}
word_copied setup bytes ToDisk lba moving = record moving {
  medium =
      with_word moving.medium (next_sector lba moving.place) (next_word moving.place)
      (master_value setup bytes moving.cells moving.place.addr Two);
}

unfoldable pub word_moved : Setup → Bytes → Direction → (lba : ℕ) → Moving → Moving
word_moved setup bytes direction lba moving =
    record (word_copied setup bytes direction lba moving) { place = moved_on moving.place }

-- ---- and what goes before it

-- the last region is used up
unfoldable pub table_tested : Moving → Moving
table_tested moving = if is_used_up moving.place && moving.place.is_last then ended Shorter moving else moving

-- the word is the first of a sector that is not there or bad
unfoldable pub sector_tested : (lba : ℕ) → Moving → Moving
sector_tested lba moving =
    if next_word moving.place == 0 && not (is_readable moving.medium (next_sector lba moving.place))
    then ended (Sector (next_sector lba moving.place)) moving else moving

-- the region in use is used up, so that the next is
unfoldable pub region_found : Setup → Bytes → Moving → Moving
region_found setup bytes moving =
    if is_used_up moving.place then descriptor_read setup bytes moving else moving

-- the table must go on, the sector must be readable, and a region must be in use
unfoldable pub ready_for : Setup → Bytes → (lba : ℕ) → Moving → Moving
ready_for setup bytes lba moving =
    moving and_then table_tested and_then sector_tested lba and_then region_found setup bytes

-- and somebody must answer
unfoldable pub next_moved : Setup → Bytes → Direction → (lba : ℕ) → Moving → Moving
next_moved setup bytes direction lba moving =
    ready_for setup bytes lba moving
    and_then (λ ready. answered setup bytes (kind_of direction) ready.place.addr ready)
    and_then word_moved setup bytes direction lba

-- so many words, or fewer where it ends before: one word more is moved after the others
unfoldable pub words_moved : Setup → Bytes → Direction → (lba words : ℕ) → Moving → Moving
words_moved setup bytes direction lba zero moving = moving
words_moved setup bytes direction lba (suc words) moving =
    next_moved setup bytes direction lba (words_moved setup bytes direction lba words moving)

-- ---- the whole

-- no region is in use yet
abbrev pub first_place : (table : ℕ) → TransferPlace
first_place table = record { table = table; addr = 0; left = 0; is_last = false; moved = 0 }

abbrev pub begun : Cells → Medium → (table : ℕ) → Moving
begun cells medium table = record { cells = cells; medium = medium; place = first_place table; end = None }

abbrev pub direction_of : Master → Direction
direction_of master = if is_to_memory master then ToMemory else ToDisk

-- a sector has 256 words
unfoldable pub transferred : Setup → Bytes → Master → (lba count : ℕ) → Cells → Medium → Moving
transferred setup bytes master lba count cells medium =
    words_moved setup bytes (direction_of master) lba (256 * count) (begun cells medium master.table)

-- after the last word the table has ended too, or it is longer
abbrev pub end_of : Moving → End
end_of moving =
    unwrap_or moving.end (if is_used_up moving.place && moving.place.is_last then Exact else Longer)

abbrev pub done_of : Moving → Done
done_of moving = record { end = end_of moving; moved = moving.place.moved }

-- bits 2 to 0 of the status: interrupt, error, active
abbrev pub status_bits : End → ℕ
status_bits Exact = 4
status_bits Longer = 5
status_bits Shorter = 0
status_bits (Abort addr denial) = 2
status_bits (Sector lba) = 2

-- start is 0, the status says how it ended, and the table pointer stands after the descriptors that were read
abbrev pub master_after : Master → Moving → Master
master_after master moving = record {
  command = even master.command;
  status = master.status / 8 * 8 + status_bits (end_of moving);
  table = moving.place.table;
}

-- without a disk there is no sector
abbrev pub medium_of : Option Disk → Medium
medium_of None = record { bytes = []; bad = [] }
medium_of (Some disk) = disk.medium

-- the same disk with other sectors
abbrev pub with_medium : Option Disk → Medium → Option Disk
with_medium None medium = None
with_medium (Some disk) medium = Some (record disk { medium = medium })
