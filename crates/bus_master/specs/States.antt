-- A transfer in plain numbers, as a caller keeps it between two pieces.
use Rattle.std.specs.Prelude.{◌≡◌, ◌+◌, ◌*◌, ◌%◌, ◌<◌, ◌≤◌, ◌^◌, Bool, true, false}
use Rattle.bus_master.specs.declared.direction.Direction.{Direction}
use Rattle.bus_master.specs.declared.direction.Direction.TheVariants.{ToMemory, ToDisk}
use Rattle.bus_master.specs.declared.state.TransferState.{TransferState}
use Rattle.bus_master.specs.Pieces.{Going, going_from}
use Rattle.bus_master.specs.Transfer.{TransferPlace}

abbrev pub place_of : TransferState → TransferPlace
place_of state = record {
  table = state.table;
  addr = state.addr;
  left = state.left;
  is_last = state.is_last;
  moved = state.moved;
}

abbrev pub direction_to : (to_memory : Bool) → Direction
direction_to true = ToMemory
direction_to false = ToDisk

abbrev pub going_of : TransferState → Going
going_of state = going_from (place_of state) (direction_to state.to_memory) state.lba state.words

-- descriptors lie at multiples of 4, and words are whole
pub record IsAligned (state : TransferState) : Type 0 where
  pub table : state.table % 4 ≡ 0
  pub addr : state.addr % 2 ≡ 0
  pub left : state.left % 2 ≡ 0
  pub moved : state.moved % 2 ≡ 0

-- a transfer can have come so far: a sector's number has 28 bits, and a transfer at most 256 sectors
pub record IsTransferState (state : TransferState) : Type 0 where
  pub aligned : IsAligned state
  pub lba : state.lba < 2 ^ 28
  pub words : state.moved + 2 * state.words ≤ 0x2_0000
