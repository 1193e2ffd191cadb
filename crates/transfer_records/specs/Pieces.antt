-- A piece of a transfer in numbers, and what a call tells.
use Rattle.std.specs.Prelude.{ℕ, ◌≡◌, ◌≢◌, ◌⊎◌, ◌+◌, ◌*◌, ◌<◌, false, Some}
use Rattle.board_prelude.specs.{Bytes, Kind, Read, Denial, Part, Medium, is_smram_range}
use Rattle.board_base.specs.declared.target.Target.TheVariants.{Abort as Nobody}
use Rattle.board_chipset.specs.Chipset.{Running}
use Rattle.board_chipset.specs.Masters.{master_part}
use Rattle.board_chipset.specs.Held.{HoldsBytes}
use Rattle.machine_records.specs.declared.reply.PartRecord.{PartRecord}
use Rattle.machine_records.specs.Numbers.{dram_target, shadow_target, smram_target}
use Rattle.machine_records.specs.Replies.{no_part, of_part}
use Rattle.bus_master.specs.declared.done.Done.{Done}
use Rattle.bus_master.specs.declared.done.End.{End}
use Rattle.bus_master.specs.declared.done.End.TheVariants.{Exact, Longer, Shorter, Abort, Sector}
use Rattle.bus_master.specs.declared.piece.Piece.{Piece}
use Rattle.bus_master.specs.declared.piece.Piece.TheVariants.{Descriptor, Move, Ended}
use Rattle.bus_master.specs.declared.piece.Stretch.{Stretch}
use Rattle.bus_master.specs.Cells.{Cells}
use Rattle.bus_master.specs.Pieces.{Going, IfMove, IsNext, IsStretch, gone_on}
use Rattle.bus_master.specs.Transfer.{address_after, kind_of, status_bits}
use Rattle.transfer_records.specs.declared.piece.PieceRecord.{PieceRecord}
use Rattle.transfer_records.specs.declared.transfer.TransferRecord.{TransferRecord}
use Rattle.transfer_records.specs.Transfers.{AreReadable, IsTransfer, going_in, recorded}

-- ---- the numbers of a piece: 1 for a descriptor, 2 for words, 3 for the end

abbrev pub descriptor_piece : ℕ
descriptor_piece = 1

abbrev pub words_piece : ℕ
words_piece = 2

abbrev pub ended_piece : ℕ
ended_piece = 3

-- two doublewords, and what answers each
abbrev pub descriptor_said : (addr : ℕ) → (base count : Part) → PieceRecord
descriptor_said addr base count = record {
  disk = 0;
  addr = addr;
  bytes = 8;
  sector = 0;
  part0 = of_part base;
  part1 = of_part count;
  what = descriptor_piece;
  end = 0;
  status = 0;
  reserved = 0;
}

-- words, what answers the first of them, and where they are on the disk: its bytes are numbered from sector 0 on
abbrev pub words_said : Stretch → (first : Part) → PieceRecord
words_said stretch first = record {
  disk = 512 * stretch.sector + 2 * stretch.word;
  addr = stretch.addr;
  bytes = 2 * stretch.words;
  sector = stretch.sector;
  part0 = of_part first;
  part1 = no_part;
  what = words_piece;
  end = 0;
  status = 0;
  reserved = 0;
}

-- an end: 1 exact, 2 longer, 3 shorter, 4 nobody answers, 5 a sector that is not there or bad
abbrev pub end_said : (end addr sector : ℕ) → PartRecord → Done → PieceRecord
end_said end addr sector part done = record {
  disk = 512 * sector;
  addr = addr;
  bytes = done.moved;
  sector = sector;
  part0 = part;
  part1 = no_part;
  what = ended_piece;
  end = end;
  status = status_bits done.end;
  reserved = 0;
}

abbrev pub nobody : Denial → PartRecord
nobody denial = of_part (record { target = Nobody; denial = Some denial })

abbrev pub numbered : End → Done → PieceRecord
numbered Exact done = end_said 1 0 0 no_part done
numbered Longer done = end_said 2 0 0 no_part done
numbered Shorter done = end_said 3 0 0 no_part done
numbered (Abort addr denial) done = end_said 4 addr 0 (nobody denial) done
numbered (Sector lba) done = end_said 5 0 lba no_part done

abbrev pub ended_said : Done → PieceRecord
ended_said done = numbered done.end done

-- by what answers a bus master. The next descriptor lies at the table pointer
abbrev pub piece_said : (Kind → ℕ → Part) → Going → Piece → PieceRecord
piece_said parts going (Descriptor addr) =
    descriptor_said going.place.table (parts Read going.place.table)
    (parts Read (address_after going.place.table 4))
piece_said parts going (Move stretch) = words_said stretch (parts (kind_of going.direction) stretch.addr)
piece_said parts going (Ended end) = ended_said (record { end = end; moved = going.place.moved })

-- ---- SMRAM

-- where a part is memory, none of so many bytes from an address on lies at A0000h to BFFFFh
abbrev pub IsOutside : PartRecord → (addr bytes : ℕ) → Type 0
IsOutside part addr bytes =
    (part.target ≡ dram_target) ⊎ (part.target ≡ shadow_target) →
    (i : ℕ) → i < bytes → is_smram_range (address_after addr i) ≡ false

-- nor is a part SMRAM
pub record IsSafe (part : PartRecord) (addr bytes : ℕ) : Type 0 where
  pub no_smram : part.target ≢ smram_target
  pub outside : IsOutside part addr bytes

abbrev pub AreSafe : Piece → PieceRecord → Type 0
AreSafe (Descriptor addr) said = IsSafe said.part0 said.addr 4 × IsSafe said.part1 (address_after said.addr 4) 4
AreSafe (Move stretch) said = IsSafe said.part0 said.addr said.bytes
AreSafe (Ended end) said = Unit {0}

-- ---- what a call tells

-- words are taken as moved
abbrev pub going_past : Piece → Going → Going
going_past (Move stretch) going = gone_on stretch.words going
going_past _ going = going

-- the numbers were those of a transfer, and the piece that is told is the next of it, whatever memory and disk hold, by
-- the register bytes that the board holds: some, and each history's that left it so
pub record IsNextPiece (chipset : Running) (old new : TransferRecord) (said : PieceRecord) : Type 0 where
  pub is : IsTransfer old
  pub piece : Piece
  pub some : Bytes
  pub held : HoldsBytes chipset some
  pub tells : (bytes : Bytes) → HoldsBytes chipset bytes →
      said ≡ piece_said (master_part chipset.setup bytes) (going_in old) piece
  pub next : (bytes : Bytes) (cells : Cells) (medium : Medium) → HoldsBytes chipset bytes →
      AreReadable old medium →
      IsNext chipset.setup bytes (going_in old) cells medium piece
  pub stretch : IfMove piece (IsStretch (going_in old))
  pub safe : AreSafe piece said
  pub after : new ≡ recorded (going_past piece (going_in old)) old.readable
