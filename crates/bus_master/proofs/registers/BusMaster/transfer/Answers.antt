use Rattle.std.proofs.Common.{◌≡◌, ◌%◌, Option, sym, ap, ◌∙◌, arith}
use Rattle.board_prelude.proofs.{Disk, Medium, Setup, Bytes, DramCell, nat_tests}
use Rattle.bus_master.specs.Registers.{Master}
use Rattle.bus_master.specs.Transfer.{Moving, TransferPlace, done_of, end_of, first_place, medium_of, with_medium}
use Rattle.bus_master.specs.Stores.{cells_of, transfer_of}
use Rattle.bus_master.specs.UnderWay.{EndedSo}
use Rattle.board_chipset.specs.Stores.{IsStoreOf}
use Rattle.bus_master.proofs.TransferLemmas.{all_moved, disk_is, done_is, same_transfer, smram_kept}
use Rattle.bus_master.proofs.WayLemmas.{memory_kept, sectors_kept}
use Rattle.bus_master.proofs.WordLemmas.{same_store}
use Rattle.bus_master.proofs.registers.BusMaster.transfer.Goals as goal

abbrev of_store : (c : goal.After-moved) → Setup → Bytes → Moving
of_store c setup bytes = transfer_of setup bytes c.args.self.now c.args.lba c.args.count c.args.store.now

moved : (c : goal.After-moved) (setup : Setup) (bytes : Bytes) → IsStoreOf setup bytes c.args.store.now →
    EndedSo (of_store c setup bytes) c.transfer-end.new.store c.transfer-end.new.self c.transfer-end.result
moved c setup bytes of =
    all_moved _ _ _ _ _ _ (c.begin-under_way.ensures.first ∙ ap (λ (master : Master). first_place master.table)
    c.self.view_is) c.direction.ensures.direction (λ moving is. c.transfer-end.ensures.moved setup bytes moving of is)

aligned : (c : goal.After-moved) → c.args.self.now.table % 4 ≡ 0
aligned c = rw (ap (λ (master : Master). master.table) c.self.view_is) at c.self.invariant

pub returns : goal.returns
returns c =
    let self = c.args.self.now in
    let lba = c.args.lba in
    let count = c.args.count in
    let store = c.args.store.now in
    let sound = c.requires.sound in
    let first = moved c sound.0 sound.1 sound.2 in
    let shape = c.transfer-end.ensures.shape in
    let table = sym c.table.ensures.table in
    record {
      done = λ setup bytes of. done_is (moved c setup bytes of) c.moved.ensures.moved;
      registers = λ setup bytes of.
          let is = moved c setup bytes of in
          c.end_transfer.ensures.ended (of_store c setup bytes) (sym is.ends)
          (ap (λ (place : TransferPlace). place.table) (sym is.come) ∙ table);
      disk = λ setup bytes of. disk_is (moved c setup bytes of) shape;
      cells = λ setup bytes cell of there. (moved c setup bytes of).cells cell there;
      to_memory = λ way.
          disk_is first shape
          ∙ ap (λ (medium : Medium). with_medium store.disk medium)
          (sectors_kept sound.0 sound.1 self lba count (cells_of store) (medium_of store.disk) way)
          ∙ sym (grind (arith, nat_tests));
      to_disk = λ way cell there.
          first.cells cell there
          ∙ memory_kept sound.0 sound.1 self lba count (cells_of store) (medium_of store.disk) way cell;
      shape = shape;
      sound = (sound.0, sound.1, same_store sound.2 shape);
      smram = λ addr inside.
          first.cells (DramCell addr) tt ∙ smram_kept sound.0 sound.1 self lba count store (aligned c) addr inside;
      hidden = λ setup bytes other of differs.
          let after = transfer_of setup bytes self lba count other in
          let is = moved c setup bytes of in
          let hidden = same_transfer setup bytes self lba count store (aligned c) differs in
          let medium = ap (λ (moving : Moving). moving.medium) hidden in (
            done_is is c.moved.ensures.moved ∙ sym (ap done_of hidden),
            c.end_transfer.ensures.ended after
                (ap end_of hidden ∙ sym is.ends)
                (ap (λ (moving : Moving). moving.place.table) hidden
                ∙ ap (λ (place : TransferPlace). place.table) (sym is.come)
                ∙ table),
            disk_is is shape
                ∙ ap (λ (m : Medium). with_medium store.disk m) (sym medium)
                ∙ ap (λ (disk : Option Disk). with_medium disk after.medium) (sym differs.disk),
          );
    }
