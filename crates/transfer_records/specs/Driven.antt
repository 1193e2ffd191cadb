-- A transfer that is driven through the calls, and that it comes to the transfer of the definition.
use Rattle.std.specs.Prelude.{ℕ, ◌≡◌, ◌/◌, ◌==◌, if◌then◌else◌, List, [], ◌∷◌}
use Rattle.board_prelude.specs.{Medium, Setup, Bytes}
use Rattle.board_base.specs.declared.access.Width.TheVariants.{Four}
use Rattle.board_chipset.specs.Chipset.{Running}
use Rattle.board_chipset.specs.Held.{HoldsBytes}
use Rattle.bus_master.specs.Cells.{Cells}
use Rattle.bus_master.specs.Pieces.{copied, standing}
use Rattle.bus_master.specs.Registers.{Master, is_to_memory}
use Rattle.bus_master.specs.Transfer.{Moving, address_after, done_of, master_value, transferred}
use Rattle.transfer_records.specs.declared.piece.PieceRecord.{PieceRecord}
use Rattle.transfer_records.specs.declared.transfer.TransferRecord.{TransferRecord}
use Rattle.transfer_records.specs.Pieces.{IsNextPiece, descriptor_piece, ended_piece, ended_said, words_piece}
use Rattle.transfer_records.specs.Transfers.{AreReadable, begun_at, described_by, going_in}

-- its numbers, and what its caller's memory and disk hold
pub record Stage : Type 0 where
  pub transfer : TransferRecord
  pub cells : Cells
  pub medium : Medium

-- ---- what a caller does once a piece is told

-- it reads the two doublewords of the descriptor, and takes the region that they name
abbrev pub region_taken : Setup → Bytes → (addr : ℕ) → (after : TransferRecord) → Stage → Stage
region_taken setup bytes addr after old = record old {
  transfer =
      described_by (master_value setup bytes old.cells addr Four)
      (master_value setup bytes old.cells (address_after addr 4) Four) after;
}

-- it moves the words, one after another
abbrev pub words_copied : Setup → Bytes → (words : ℕ) → (after : TransferRecord) → Stage → Stage
words_copied setup bytes words after old =
    let going = going_in old.transfer in
    let moved = copied setup bytes going.direction going.lba words (standing going old.cells old.medium) in
    record { transfer = after; cells = moved.cells; medium = moved.medium }

unfoldable pub done_as_told : Setup → Bytes → PieceRecord → (after : TransferRecord) → Stage → Stage
done_as_told setup bytes said after old =
    if said.what == descriptor_piece then region_taken setup bytes said.addr after old else
    if said.what == words_piece then words_copied setup bytes (said.bytes / 2) after old else
    record old { transfer = after }

-- ---- one piece after another

pub record IsRound (chipset : Running) (bytes : Bytes) (old new : Stage) : Type 0 where
  pub after : TransferRecord
  pub said : PieceRecord
  pub told : IsNextPiece chipset old.transfer after said
  pub done : new ≡ done_as_told chipset.setup bytes said after old

unfoldable pub AreRounds : Running → Bytes → Stage → List Stage → Type 0
AreRounds chipset bytes first [] = Unit {0}
AreRounds chipset bytes first (next ∷ later) =
    IsRound chipset bytes first next × AreRounds chipset bytes next later

unfoldable pub last_of : Stage → List Stage → Stage
last_of first [] = first
last_of first (next ∷ later) = last_of next later

-- ---- the whole

-- memory and disk hold what the transfer makes of them, the table pointer stands where it leaves it, and the end that
-- is told is its end
pub record HasCome (moving : Moving) (last : Stage) (said : PieceRecord) : Type 0 where
  pub cells : last.cells ≡ moving.cells
  pub disk : last.medium ≡ moving.medium
  pub table : last.transfer.table ≡ moving.place.table
  pub end : said ≡ ended_said (done_of moving)

-- whatever memory and disk held, on each board, by the register bytes that it holds
abbrev pub CallsComeToTheTransfer : Type 0
CallsComeToTheTransfer =
    (chipset : Running) (bytes : Bytes) (master : Master) (lba sectors readable : ℕ) (first : Stage)
    (later : List Stage) (after : TransferRecord) (said : PieceRecord) →
    HoldsBytes chipset bytes →
    first.transfer ≡ begun_at master.table lba sectors readable (is_to_memory master) →
    AreReadable first.transfer first.medium →
    AreRounds chipset bytes first later →
    IsNextPiece chipset (last_of first later).transfer after said →
    said.what ≡ ended_piece →
    HasCome
    (transferred chipset.setup bytes master lba sectors first.cells first.medium)
    (last_of first later) said
