-- A transfer in the numbers that its caller keeps.
use Rattle.std.specs.Prelude.{ℕ, ◌≡◌, ◌+◌, ◌*◌, ◌/◌, ◌%◌, ◌<◌, ◌≤◌, ◌^◌, ◌==◌, nat_lt, Bool, true, false}
use Rattle.board_prelude.specs.{Medium}
use Rattle.ata_pio.specs.Words.{is_readable}
use Rattle.bus_master.specs.declared.direction.Direction.{Direction}
use Rattle.bus_master.specs.declared.direction.Direction.TheVariants.{ToMemory, ToDisk}
use Rattle.bus_master.specs.declared.state.TransferState.{TransferState}
use Rattle.bus_master.specs.Pieces.{Going, described}
use Rattle.bus_master.specs.States.{IsTransferState, direction_to, going_of}
use Rattle.bus_master.specs.Transfer.{first_place}
use Rattle.transfer_records.specs.declared.transfer.TransferRecord.{TransferRecord}

-- ---- what the numbers say

abbrev pub state_in : TransferRecord → TransferState
state_in transfer = record {
  table = transfer.table;
  addr = transfer.addr;
  left = transfer.left;
  is_last = transfer.is_last == 1;
  moved = transfer.moved;
  to_memory = transfer.to_memory == 1;
  lba = transfer.lba;
  words = transfer.words;
}

abbrev pub going_in : TransferRecord → Going
going_in transfer = going_of (state_in transfer)

-- they are those of a transfer that can have come so far: a flag is 0 or 1, no sector was begun that cannot be read,
-- and the reserved bytes are 0
pub record IsTransfer (transfer : TransferRecord) : Type 0 where
  pub state : IsTransferState (state_in transfer)
  pub last : transfer.is_last ≤ 1
  pub direction : transfer.to_memory ≤ 1
  pub begun : (transfer.moved + 511) / 512 ≤ transfer.readable
  pub reserved : transfer.reserved ≡ 0

-- ---- and the numbers that say it

abbrev pub flag : Bool → ℕ
flag true = 1
flag false = 0

abbrev pub memory_flag : Direction → ℕ
memory_flag ToMemory = 1
memory_flag ToDisk = 0

abbrev pub recorded : Going → (readable : ℕ) → TransferRecord
recorded going readable = record {
  table = going.place.table;
  addr = going.place.addr;
  left = going.place.left;
  moved = going.place.moved;
  words = going.words;
  lba = going.lba;
  readable = readable;
  is_last = flag going.place.is_last;
  to_memory = memory_flag going.direction;
  reserved = 0;
}

-- ---- the beginning

-- a table of descriptors lies at a multiple of 4, a sector's number has 28 bits, and a transfer 1 to 256 sectors
pub record IsBeginning (table lba sectors : ℕ) : Type 0 where
  pub aligned : table % 4 ≡ 0
  pub address : lba < 2 ^ 28
  pub some : 1 ≤ sectors
  pub most : sectors ≤ 256

abbrev pub begun_at : (table lba sectors readable : ℕ) → (to_memory : Bool) → TransferRecord
begun_at table lba sectors readable to_memory =
    recorded
    (record { place = first_place table; direction = direction_to to_memory; lba = lba; words = 256 * sectors })
    readable

-- ---- the region of a descriptor

-- it can be taken, since none is in use
pub record IsRegionFree (transfer : TransferRecord) : Type 0 where
  pub is : IsTransfer transfer
  pub used : transfer.left ≡ 0

abbrev pub described_by : (base count : ℕ) → TransferRecord → TransferRecord
described_by base count transfer = recorded (described base count (going_in transfer)) transfer.readable

-- ---- the disk, of which so many sectors can be read

-- of the sectors that it moves the first ones are there and not bad, and then comes one that is not, or the last
abbrev pub AreReadable : TransferRecord → Medium → Type 0
AreReadable transfer medium =
    (k : ℕ) → k ≤ transfer.readable → 512 * k < transfer.moved + 2 * transfer.words →
    is_readable medium (transfer.lba + k) ≡ nat_lt k transfer.readable
