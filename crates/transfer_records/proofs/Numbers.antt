-- What the numbers of a transfer say, and what a piece changes of it.
use Rattle.board_prelude.proofs.{nat_tests, Medium, Setup, Bytes}
use Rattle.std.proofs.Common.{◌≡◌, ℕ, zero, suc, ◌+◌, ◌-◌, ◌*◌, nat_lt, arith}
use Rattle.ata_pio.specs.Words.{is_readable}
use Rattle.bus_master.specs.declared.direction.Direction.{Direction}
use Rattle.bus_master.specs.Pieces.{IsSaid, copied}
use Rattle.bus_master.specs.Transfer.{Moving, next_sector, word_moved}
use Rattle.transfer_records.specs.declared.transfer.TransferRecord.{TransferRecord}
use Rattle.transfer_records.specs.Transfers.{AreReadable, IsTransfer, going_in}

-- ---- the disk

-- of the sector of the next word it is told whether it can be read
pub said_by_count : (transfer : TransferRecord) (medium : Medium) → IsTransfer transfer → AreReadable transfer medium →
    IsSaid (going_in transfer) medium
    (nat_lt (next_sector transfer.lba (going_in transfer).place - transfer.lba) transfer.readable)
said_by_count transfer medium is readable some = grind (arith, nat_tests)

module _ (setup : Setup) (bytes : Bytes) (lba sector : ℕ) where
  pub copied_readable : (direction : Direction) (words : ℕ) (moving : Moving) →
      is_readable (copied setup bytes direction lba words moving).medium sector ≡ is_readable moving.medium sector
  unfolding copied word_moved
  copied_readable direction zero moving = grind (arith, nat_tests)
  copied_readable direction (suc words) moving = grind (arith, nat_tests, copied_readable direction words moving)

pub still_readable : (old new : TransferRecord) (medium later : Medium) → new.lba ≡ old.lba →
    new.readable ≡ old.readable → new.moved + 2 * new.words ≡ old.moved + 2 * old.words →
    ((sector : ℕ) → is_readable later sector ≡ is_readable medium sector) → AreReadable old medium →
    AreReadable new later
still_readable old new medium later lba readable whole same are k below within = grind (arith, nat_tests)
