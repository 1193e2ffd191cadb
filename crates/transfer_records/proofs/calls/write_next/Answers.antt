use Rattle.std.proofs.Common.{◌∙◌, refl}
use Rattle.board_prelude.proofs.{Bytes}
use Rattle.addr_decode.specs.MapRegs.{StandsFor, map_bytes}
use Rattle.board_chipset.specs.Held.{HoldsBytes}
use Rattle.transfer_records.proofs.Numbers.{said_by_count}
use Rattle.transfer_records.proofs.Safe.{safe_so}
use Rattle.transfer_records.proofs.calls.write_next.Goals as goal

pub returns-clause-done : goal.returns-clause-done
returns-clause-done c =
    let going = c.requires.going in
    let chipset = c.args.chipset.now in
    let piece = c.next_by-next.result in
    let next = c.next_by-next.ensures in
    let some = c.map.ensures.sound.registers.bytes in
    let held : HoldsBytes c.args.chipset.now some = c.map.ensures.sound.registers.kept.map in
    let stands : (bytes : Bytes) → HoldsBytes c.args.chipset.now bytes →
    StandsFor c.args.chipset.now.setup bytes (map_bytes c.regs.result.now)
    = λ bytes holds. rw (c.regs.ensures.regs, c.map.ensures.held) holds in
    let tells = λ (bytes : Bytes) (holds : HoldsBytes c.args.chipset.now bytes).
    rw going at (c.piece_record.ensures.said bytes holds) in
    record {
      is = c.requires.sound;
      piece = piece;
      some = some;
      held = held;
      tells = tells;
      next = λ bytes cells medium holds readable.
          rw going at (next.next chipset.setup bytes cells medium (stands bytes holds)
          (rw (c.sector.ensures.sector, going) (said_by_count c.args.transfer.now medium c.requires.sound readable)));
      stretch = rw going at next.stretch;
      safe =
          rw (tells some held)
          (safe_so chipset.setup some _ piece c.piece_record.ensures.table c.requires.sound.state.aligned.table
          c.piece_record.ensures.address (rw going at (next.area chipset.setup some (stands some held)))
          (rw going at next.stretch) (next.smram chipset.setup some (stands some held)));
      after = c.of.ensures.recorded ∙ rw (c.go_past.ensures.past, going) refl;
    }
