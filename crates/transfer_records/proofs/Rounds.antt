-- A transfer that is driven through the calls comes to that of the definition.
use Rattle.board_prelude.proofs.{common_steps, nat_tests, Medium, Setup, Bytes}
use Rattle.std.proofs.Common.{◌≡◌, ℕ, ◌+◌, ◌-◌, ◌*◌, ◌≤◌, ◌/◌, List, [], ◌∷◌, refl, sym, ap, ◌∙◌, arith}
use Rattle.board_chipset.specs.Chipset.{Running}
use Rattle.board_chipset.specs.Masters.{master_part}
use Rattle.board_chipset.specs.Held.{HoldsBytes}
use Rattle.bus_master.specs.declared.done.End.{End}
use Rattle.bus_master.specs.declared.piece.Piece.{Piece}
use Rattle.bus_master.specs.declared.piece.Piece.TheVariants.{Descriptor, Move, Ended}
use Rattle.bus_master.specs.Cells.{Cells}
use Rattle.bus_master.specs.Pieces.{Going, IfMove, IsEnd, IsNext, IsStretch, Point, going_at_start, gone_on, standing}
use Rattle.bus_master.specs.Pieces.{AreNext, all_done, copied, once_done}
use Rattle.bus_master.specs.Registers.{Master, is_to_memory}
use Rattle.bus_master.specs.Transfer.{Moving, transferred}
use Rattle.bus_master.proofs.PieceLemmas.{comes_to_the_transfer}
use Rattle.transfer_records.specs.declared.piece.PieceRecord.{PieceRecord}
use Rattle.transfer_records.specs.declared.transfer.TransferRecord.{TransferRecord}
use Rattle.transfer_records.specs.Driven.{CallsComeToTheTransfer, HasCome, IsRound, Stage, AreRounds, done_as_told}
use Rattle.transfer_records.specs.Driven.{last_of}
use Rattle.transfer_records.specs.Pieces.{ended_piece, ended_said, going_past, piece_said}
use Rattle.transfer_records.specs.Transfers.{AreReadable, begun_at, going_in, recorded}
use Rattle.transfer_records.proofs.Numbers.{copied_readable, still_readable}

abbrev point_of : Stage → Point
point_of stage = record { going = going_in stage.transfer; cells = stage.cells; medium = stage.medium }

abbrev at_going : Cells → Medium → Going → Point
at_going cells medium going = record { going = going; cells = cells; medium = medium }

-- the pieces that were told, one after another
record AreTold (setup : Setup) (bytes : Bytes) (first last : Stage) : Type 0 where
  pieces : List Piece
  next : AreNext setup bytes pieces (point_of first)
  done : all_done setup bytes pieces (point_of first) ≡ point_of last
  readable : AreReadable last.transfer last.medium

module _ (chipset : Running) (bytes : Bytes) (held : HoldsBytes chipset bytes) where
  -- at the end nothing is done
  ended_done : (end : End) (moved : ℕ) (after : TransferRecord) (old : Stage) →
      done_as_told chipset.setup bytes (ended_said (record { end = end; moved = moved })) after old
      ≡ record old { transfer = after }
  unfolding done_as_told
  ended_done end moved after old = grind (arith, nat_tests)

  -- what is told is done to the point too, whatever the piece
  done_so : (piece : Piece) (old : Stage) →
      IsNext chipset.setup bytes (going_in old.transfer) old.cells old.medium piece →
      once_done chipset.setup bytes piece (point_of old)
      ≡ point_of (done_as_told chipset.setup bytes
      (piece_said (master_part chipset.setup bytes) (going_in old.transfer) piece)
      (recorded (going_past piece (going_in old.transfer)) old.transfer.readable) old)
  unfolding once_done done_as_told
  done_so (Descriptor addr) old next = let here = next.here in grind (arith, nat_tests)
  done_so _ old _ = grind (arith, nat_tests)

  -- the disk stays as readable
  readable_so : (piece : Piece) (old : Stage) → IfMove piece (IsStretch (going_in old.transfer)) →
      AreReadable old.transfer old.medium →
      let new =
      done_as_told chipset.setup bytes (piece_said (master_part chipset.setup bytes) (going_in old.transfer) piece)
      (recorded (going_past piece (going_in old.transfer)) old.transfer.readable) old in
      AreReadable new.transfer new.medium
  unfolding done_as_told
  readable_so (Descriptor addr) old is readable = grind (arith, nat_tests)
  readable_so (Move stretch) old is readable =
      let going = going_in old.transfer in
      let words : ℕ = 2 * stretch.words / 2 in
      still_readable old.transfer (recorded (gone_on stretch.words going) old.transfer.readable) old.medium
      (copied chipset.setup bytes going.direction going.lba words (standing going old.cells old.medium)).medium refl
      refl
      (all_words old.transfer.moved old.transfer.words stretch.words is.most)
      (λ sector.
      copied_readable chipset.setup bytes going.lba sector going.direction words
      (standing going old.cells old.medium))
      readable
    where
      all_words : (moved words some : ℕ) → some ≤ words → moved + 2 * some + 2 * (words - some) ≡ moved + 2 * words
      all_words moved words some few = omega (arith, few)
  readable_so (Ended end) old is readable =
      rw (ended_done end old.transfer.moved (recorded (going_in old.transfer) old.transfer.readable) old) readable

  module _ (old new : Stage) (round : IsRound chipset bytes old new) where
    same_round :
        done_as_told chipset.setup bytes
        (piece_said (master_part chipset.setup bytes) (going_in old.transfer) round.told.piece)
        (recorded (going_past round.told.piece (going_in old.transfer)) old.transfer.readable) old
        ≡ new
    same_round = rw (← round.told.tells bytes held, ← round.told.after) (sym round.done)

    round_done : AreReadable old.transfer old.medium →
        once_done chipset.setup bytes round.told.piece (point_of old) ≡ point_of new
    round_done readable =
        done_so round.told.piece old (round.told.next bytes old.cells old.medium held readable) ∙ ap point_of same_round

    round_readable : AreReadable old.transfer old.medium → AreReadable new.transfer new.medium
    round_readable readable = grind (arith, nat_tests, common_steps, same_round, readable_so, readable)

  all_told : (first : Stage) (later : List Stage) → AreReadable first.transfer first.medium →
      AreRounds chipset bytes first later → AreTold chipset.setup bytes first (last_of first later)
  unfolding AreRounds last_of AreNext all_done
  all_told first [] readable rounds = record { pieces = []; next = tt; done = refl; readable = readable }
  all_told first (next ∷ later) readable rounds =
      let round = rounds.0 in
      let done = round_done first next round readable in
      let told = all_told next later (round_readable first next round readable) rounds.1 in
      record {
        pieces = round.told.piece ∷ told.pieces;
        next = (round.told.next bytes first.cells first.medium held readable, rw done told.next);
        done = ap (all_done chipset.setup bytes told.pieces) done ∙ told.done;
        readable = told.readable;
      }

  -- what is told at the end
  end_so : (moving : Moving) (last : Stage) (piece : Piece) (after : TransferRecord) (said : PieceRecord) →
      said ≡ piece_said (master_part chipset.setup bytes) (going_in last.transfer) piece → said.what ≡ ended_piece →
      ((end : End) → piece ≡ Ended end → IsEnd moving (going_in last.transfer) last.cells last.medium end) →
      HasCome moving last said
  end_so moving last piece after said is ended finds = grind (arith, nat_tests, common_steps)

-- ---- the law

pub calls_come_to_the_transfer : CallsComeToTheTransfer
calls_come_to_the_transfer chipset bytes master lba sectors readable first later after said held begins are rounds told
    ended =
    let last = last_of first later in
    let all = all_told chipset bytes held first later are rounds in
    let start = starts first begins in
    let whole = ap (all_done chipset.setup bytes all.pieces) start ∙ all.done in
    end_so chipset bytes held
    (transferred chipset.setup bytes master lba sectors first.cells first.medium) last told.piece after said
    (told.tells bytes held) ended
    (λ end is.
    rw whole at
    (comes_to_the_transfer chipset.setup bytes master lba sectors first.cells first.medium all.pieces end
    (rw start all.next) (rw whole (rw is at (told.next bytes last.cells last.medium held all.readable)))))
  where
    begun_going : (master : Master) (lba sectors readable : ℕ) →
        going_in (begun_at master.table lba sectors readable (is_to_memory master)) ≡ going_at_start master lba sectors
    begun_going master lba sectors readable = grind (arith, nat_tests)

    starts : (first : Stage) → first.transfer ≡ begun_at master.table lba sectors readable (is_to_memory master) →
        at_going first.cells first.medium (going_at_start master lba sectors) ≡ point_of first
    starts first begins = grind (arith, nat_tests)
