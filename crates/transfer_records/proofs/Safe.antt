-- No part of a piece is SMRAM, nor memory at A0000h to BFFFFh.
use Rattle.board_prelude.proofs.{common_steps, nat_tests, Kind, Read, Setup, Bytes}
use Rattle.std.proofs.Common.{◌≡◌, ℕ, ◌*◌, ◌%◌, ◌<◌, ◌^◌, ap, ◌∙◌, arith}
use Rattle.addr_decode.specs.Master.{master_area}
use Rattle.board_chipset.specs.Masters.{master_part}
use Rattle.machine_records.specs.Replies.{of_part}
use Rattle.machine_records.proofs.Masters.{no_memory, no_smram_said, outside_said, said_target}
use Rattle.board_chipset.proofs.MasterSteps.{no_smram, outside_smram}
use Rattle.bus_master.specs.declared.piece.Piece.{Piece}
use Rattle.bus_master.specs.declared.piece.Piece.TheVariants.{Descriptor, Move, Ended}
use Rattle.bus_master.specs.declared.piece.Stretch.{Stretch}
use Rattle.bus_master.specs.Pieces.{Going, IfMove, IsInArea, IsOutsideSmramRange, IsStretch}
use Rattle.bus_master.specs.Transfer.{address_after, kind_of}
use Rattle.transfer_records.specs.Pieces.{AreSafe, IsSafe, piece_said}

-- ---- a doubleword

doubleword_safe : (setup : Setup) (bytes : Bytes) (addr : ℕ) → addr < 2 ^ 32 → addr % 4 ≡ 0 →
    IsSafe (of_part (master_part setup bytes Read addr)) addr 4
doubleword_safe setup bytes addr fits aligned =
    let part = master_part setup bytes Read addr in
    let outside = outside_said part.target part.denial addr (outside_smram setup bytes Read addr) in
    record {
      no_smram = no_smram_said part.target part.denial (no_smram setup bytes Read addr);
      outside = λ memory i below. grind (arith, nat_tests, outside memory);
    }

-- ---- words in one area

words_safe : (setup : Setup) (bytes : Bytes) (kind : Kind) (stretch : Stretch) →
    master_area setup bytes stretch.addr kind ≡ stretch.area → IsOutsideSmramRange stretch →
    IsSafe (of_part (master_part setup bytes kind stretch.addr)) stretch.addr (2 * stretch.words)
words_safe setup bytes kind stretch area outside =
    grind (arith, nat_tests, common_steps, no_smram, no_smram_said, no_memory, said_target)

-- ---- a piece

next_doubleword : (addr : ℕ) → addr % 4 ≡ 0 → address_after addr 4 % 4 ≡ 0
next_doubleword addr aligned = omega (arith, aligned)

pub safe_so : (setup : Setup) (bytes : Bytes) (going : Going) (piece : Piece) → going.place.table < 2 ^ 32 →
    going.place.table % 4 ≡ 0 → IfMove piece (λ stretch. stretch.addr < 2 ^ 32) →
    IfMove piece (IsInArea setup bytes going) → IfMove piece (IsStretch going) → IfMove piece IsOutsideSmramRange →
    AreSafe piece (piece_said (master_part setup bytes) going piece)
safe_so setup bytes going (Descriptor addr) low aligned fits area is outside =
    grind (arith, nat_tests, common_steps, doubleword_safe, next_doubleword)
safe_so setup bytes going (Move stretch) low aligned fits area is outside =
    let first : stretch.addr ≡ address_after stretch.addr (2 * 0) = omega (arith, fits) in
    words_safe setup bytes (kind_of going.direction) stretch
    (ap (λ (at : ℕ). master_area setup bytes at (kind_of going.direction)) first ∙ area 0 is.some) outside
safe_so setup bytes going (Ended end) low aligned fits area is outside = tt
