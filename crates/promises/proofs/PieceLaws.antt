-- The pieces of a transfer lie beside SMRAM.
use Rattle.std.proofs.Common.{◌≡◌, ◌≢◌, ◌%◌, ◌+◌, ◌*◌, ℕ, ap, ◌∙◌}
use Rattle.board_base.specs.declared.target.Area.{Area}
use Rattle.board_base.specs.declared.access.Kind.{Kind}
use Rattle.board_base.specs.declared.access.Kind.TheVariants.{Read}
use Rattle.board_base.specs.declared.target.Area.TheVariants.{Dram as DramArea, Shadow as ShadowArea}
use Rattle.board_base.specs.declared.target.Area.TheVariants.{Smram as SmramArea}
use Rattle.board_spec.specs.Setup.{Setup}
use Rattle.board_spec.specs.Decode.{Bytes}
use Rattle.device_spec.specs.Ata.State.{Medium}
use Rattle.board_spec.specs.Answer.{target_at}
use Rattle.addr_decode.specs.Master.{master_area}
use Rattle.board_chipset.specs.Masters.{master_target}
use Rattle.board_chipset.proofs.MasterSteps.{no_smram, outside_smram}
use Rattle.bus_master.specs.declared.piece.Piece.{Piece}
use Rattle.bus_master.specs.declared.piece.Piece.TheVariants.{Descriptor, Move, Ended}
use Rattle.bus_master.specs.Cells.{Cells}
use Rattle.bus_master.specs.Transfer.{kind_of}
use Rattle.bus_master.specs.Pieces.{Going, IfMove, IsMemory, IsNext, IsOutsideSmramRange, IsStretch}
use Rattle.promises.specs.Images.{IsDram, MissesSmram, PieceMissesSmram}

-- what a bus master reaches at an address
misses : (setup : Setup) (bytes : Bytes) (kind : Kind) (addr : ℕ) →
    MissesSmram (master_target setup bytes kind addr) addr
misses setup bytes kind addr =
    record { other = no_smram setup bytes kind addr; beside = outside_smram setup bytes kind addr }

is_memory : (area : Area) → IsDram area → IsMemory area
is_memory (DramArea row) is = is
is_memory (ShadowArea row) is = is
is_memory _ is = absurd is

other_area : (setup : Setup) (bytes : Bytes) (kind : Kind) (addr : ℕ) (area : Area) →
    master_area setup bytes addr kind ≡ area → area ≢ SmramArea
other_area setup bytes kind addr area is = λ smram.
    no_smram setup bytes kind addr (ap (λ reached. target_at setup reached addr) (is ∙ smram))

pub piece_misses : (setup : Setup) (bytes : Bytes) (going : Going) (cells : Cells) (medium : Medium) (piece : Piece) →
    IsNext setup bytes going cells medium piece → IfMove piece (IsStretch going) →
    IfMove piece IsOutsideSmramRange → PieceMissesSmram setup bytes piece
piece_misses setup bytes going cells medium (Descriptor addr) next is outside =
    λ i below. misses setup bytes Read ((addr + i) % 0x1_0000_0000)
piece_misses setup bytes going cells medium (Move stretch) next is outside = (
  other_area setup bytes (kind_of going.direction) ((stretch.addr + 2 * 0) % 0x1_0000_0000) stretch.area
      (next.area 0 is.some),
  λ dram. outside (is_memory stretch.area dram),
)
piece_misses setup bytes going cells medium (Ended end) next is outside = tt
