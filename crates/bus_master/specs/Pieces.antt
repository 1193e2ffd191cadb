-- A transfer in pieces: what a caller is to do next to a memory that it keeps itself, and that this is the transfer of
-- the definition, whatever that memory holds.
use Rattle.std.specs.Prelude.{ℕ, zero, suc, ◌≡◌, ◌+◌, ◌-◌, ◌*◌, ◌<◌, ◌≤◌, ◌^◌, ◌==◌, ◌&&◌, Bool, not, false, List, []}
use Rattle.std.specs.Prelude.{◌∷◌, Option, None}
use Rattle.board_prelude.specs.{Kind, Area, Medium, Setup, Bytes, is_smram_range}
use Rattle.board_base.specs.declared.access.Width.TheVariants.{Four}
use Rattle.board_base.specs.declared.target.Area.TheVariants.{Dram as DramArea, Shadow as ShadowArea}
use Rattle.ata_pio.specs.Words.{is_readable}
use Rattle.addr_decode.specs.Master.{master_area, master_denial}
use Rattle.bus_master.specs.declared.done.End.{End}
use Rattle.bus_master.specs.declared.direction.Direction.{Direction}
use Rattle.bus_master.specs.declared.piece.Piece.{Piece}
use Rattle.bus_master.specs.declared.piece.Piece.TheVariants.{Descriptor, Move, Ended}
use Rattle.bus_master.specs.declared.piece.Stretch.{Stretch}
use Rattle.bus_master.specs.Cells.{Cells}
use Rattle.bus_master.specs.Registers.{Master}
use Rattle.bus_master.specs.Transfer.{Moving, TransferPlace, abort_in, address_after, direction_of, end_of, first_place}
use Rattle.bus_master.specs.Transfer.{is_used_up, kind_of, master_value, next_sector, next_word, transferred}
use Rattle.bus_master.specs.Transfer.{with_region, word_moved, words_moved}

-- how far a transfer has come, which way and from which sector on, and how many words it still has to move
pub record Going : Type 0 where
  pub place : TransferPlace
  pub direction : Direction
  pub lba : ℕ
  pub words : ℕ

abbrev pub going_from : TransferPlace → Direction → (lba words : ℕ) → Going
going_from place direction lba words = record { place = place; direction = direction; lba = lba; words = words }

-- a sector's number has 28 bits, and a transfer at most 256 sectors
pub record IsGoing (going : Going) : Type 0 where
  pub lba : going.lba < 2 ^ 28
  pub words : going.place.moved + 2 * going.words ≤ 0x2_0000

-- nothing was moved
abbrev pub going_at_start : Master → (lba count : ℕ) → Going
going_at_start master lba count = record {
  place = first_place master.table;
  direction = direction_of master;
  lba = lba;
  words = 256 * count;
}

-- the next word is the first of a sector that is not there or bad
abbrev pub is_missing : (lba : ℕ) → TransferPlace → Medium → Bool
is_missing lba place medium = next_word place == 0 && not (is_readable medium (next_sector lba place))

-- of the sector of the next word, where there is one, it is said whether it is there and not bad
abbrev pub IsSaid : Going → Medium → (readable : Bool) → Type 0
IsSaid going medium readable =
    1 ≤ going.words → is_readable medium (next_sector going.lba going.place) ≡ readable

-- ---- what the definition comes to

abbrev pub standing : Going → Cells → Medium → Moving
standing going cells medium = record { cells = cells; medium = medium; place = going.place; end = None }

-- from here on, over what memory and disk hold
unfoldable pub outcome : Setup → Bytes → Going → Cells → Medium → Moving
outcome setup bytes going cells medium =
    words_moved setup bytes going.direction going.lba going.words (standing going cells medium)

-- so many words of a stretch, one after another
unfoldable pub copied : Setup → Bytes → Direction → (lba words : ℕ) → Moving → Moving
copied setup bytes direction lba zero moving = moving
copied setup bytes direction lba (suc words) moving =
    word_moved setup bytes direction lba (copied setup bytes direction lba words moving)

-- an access ends the transfer where nobody answers
abbrev pub abort_at : Setup → Bytes → Kind → (addr : ℕ) → Option End
abort_at setup bytes kind addr = abort_in (master_area setup bytes addr kind) addr (master_denial setup bytes addr kind)

-- nothing stands in the way of a next word but its descriptor, or that nobody answers
pub record HasPassed (going : Going) (medium : Medium) : Type 0 where
  pub some : 1 ≤ going.words
  pub over : (is_used_up going.place && going.place.is_last) ≡ false
  pub sector : is_missing going.lba going.place medium ≡ false

-- ---- what a piece leaves to do

-- a descriptor was read
abbrev pub described : (base count : ℕ) → Going → Going
described base count going = record going { place = with_region base count going.place }

abbrev pub went_on : (words : ℕ) → TransferPlace → TransferPlace
went_on words place = record place {
  addr = address_after place.addr (2 * words);
  left = place.left - 2 * words;
  moved = place.moved + 2 * words;
}

-- words were moved
abbrev pub gone_on : (words : ℕ) → Going → Going
gone_on words going = record going { place = went_on words going.place; words = going.words - words }

-- ---- a piece is the next of the definition's

-- the transfer has ended so: nothing more is moved
pub record IsEnd (moving : Moving) (going : Going) (cells : Cells) (medium : Medium) (end : End) : Type 0 where
  pub kept : moving.cells ≡ cells
  pub disk : moving.medium ≡ medium
  pub place : moving.place ≡ going.place
  pub ends : end_of moving ≡ end

-- once the two doublewords at the table pointer are read, the same is left to do
pub record IsDescriptor (setup : Setup) (bytes : Bytes) (going : Going) (cells : Cells) (medium : Medium) (addr : ℕ)
    : Type 0 where
  pub here : addr ≡ going.place.table
  pub same :
      outcome setup bytes going cells medium
      ≡ outcome setup bytes
      (described (master_value setup bytes cells addr Four)
      (master_value setup bytes cells (address_after addr 4) Four) going)
      cells medium

-- words that lie in one area, one region and one sector
pub record IsStretch (going : Going) (stretch : Stretch) : Type 0 where
  pub addr : stretch.addr ≡ going.place.addr
  pub sector : stretch.sector ≡ next_sector going.lba going.place
  pub word : stretch.word ≡ next_word going.place
  pub some : 1 ≤ stretch.words
  pub most : stretch.words ≤ going.words
  pub left : 2 * stretch.words ≤ going.place.left
  pub within : stretch.word + stretch.words ≤ 256

abbrev pub IsInArea : Setup → Bytes → Going → Stretch → Type 0
IsInArea setup bytes going stretch =
    (i : ℕ) → i < stretch.words →
    master_area setup bytes (address_after stretch.addr (2 * i)) (kind_of going.direction) ≡ stretch.area

-- once these words are moved, the same is left to do
pub record IsMove (setup : Setup) (bytes : Bytes) (going : Going) (cells : Cells) (medium : Medium) (stretch : Stretch)
    : Type 0 where
  pub area : IsInArea setup bytes going stretch
  pub same :
      outcome setup bytes going cells medium
      ≡ outcome setup bytes (gone_on stretch.words going)
      (copied setup bytes going.direction going.lba stretch.words (standing going cells medium)).cells
      (copied setup bytes going.direction going.lba stretch.words (standing going cells medium)).medium

-- over any memory
abbrev pub IsNext : Setup → Bytes → Going → Cells → Medium → Piece → Type 0
IsNext setup bytes going cells medium (Descriptor addr) = IsDescriptor setup bytes going cells medium addr
IsNext setup bytes going cells medium (Move stretch) = IsMove setup bytes going cells medium stretch
IsNext setup bytes going cells medium (Ended end) =
    IsEnd (outcome setup bytes going cells medium) going cells medium end

abbrev pub IfMove : Piece → (Stretch → Type 0) → Type 0
IfMove (Descriptor addr) P = Unit {0}
IfMove (Move stretch) P = P stretch
IfMove (Ended end) P = Unit {0}

-- ---- SMRAM

abbrev pub IsMemory : Area → Type 0
IsMemory (DramArea row) = Unit {0}
IsMemory (ShadowArea row) = Unit {0}
IsMemory _ = ⊥

-- where a stretch is memory, none of its bytes lies at A0000h to BFFFFh
abbrev pub IsOutsideSmramRange : Stretch → Type 0
IsOutsideSmramRange stretch =
    IsMemory stretch.area → (i : ℕ) → i < 2 * stretch.words → is_smram_range (address_after stretch.addr i) ≡ false

-- ---- a transfer that is driven: one piece after another, each done as it was told

-- how far it came, and what memory and disk hold
pub record Point : Type 0 where
  pub going : Going
  pub cells : Cells
  pub medium : Medium

unfoldable pub once_done : Setup → Bytes → Piece → Point → Point
once_done setup bytes (Descriptor addr) point = record point {
  going =
      described (master_value setup bytes point.cells addr Four)
      (master_value setup bytes point.cells (address_after addr 4) Four) point.going;
}
once_done setup bytes (Move stretch) point =
    let moved =
    copied setup bytes point.going.direction point.going.lba stretch.words
    (standing point.going point.cells point.medium) in
    record { going = gone_on stretch.words point.going; cells = moved.cells; medium = moved.medium }
once_done setup bytes (Ended end) point = point

-- each is the next where those before it are done
unfoldable pub AreNext : Setup → Bytes → List Piece → Point → Type 0
AreNext setup bytes [] point = Unit {0}
AreNext setup bytes (piece ∷ later) point =
    IsNext setup bytes point.going point.cells point.medium piece
    × AreNext setup bytes later (once_done setup bytes piece point)

unfoldable pub all_done : Setup → Bytes → List Piece → Point → Point
all_done setup bytes [] point = point
all_done setup bytes (piece ∷ later) point = all_done setup bytes later (once_done setup bytes piece point)

-- once it has ended memory and disk hold what the transfer makes of them, and it ended so, whatever they held
abbrev pub ComesToTheTransfer : Type 0
ComesToTheTransfer =
    (setup : Setup) (bytes : Bytes) (master : Master) (lba count : ℕ) (cells : Cells) (medium : Medium)
    (pieces : List Piece) (end : End) →
    AreNext setup bytes pieces (record { going = going_at_start master lba count; cells = cells; medium = medium }) →
    let last =
    all_done setup bytes pieces (record { going = going_at_start master lba count; cells = cells; medium = medium }) in
    IsNext setup bytes last.going last.cells last.medium (Ended end) →
    IsEnd (transferred setup bytes master lba count cells medium) last.going last.cells last.medium end
