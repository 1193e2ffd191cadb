-- A whole transfer.
use Rattle.board_prelude.proofs.{nat_tests, Setup, Bytes, is_smram_range, DramCell}
use Rattle.std.proofs.Common.{arith, ◌≡◌, ℕ, ◌*◌, ◌%◌, true, None, refl}
use Rattle.dram_store.specs.Dram.{dram_at}
use Rattle.board_chipset.specs.declared.store.Store.{Store}
use Rattle.bus_master.specs.declared.done.End.{End}
use Rattle.bus_master.specs.declared.direction.Direction.{Direction}
use Rattle.bus_master.specs.Registers.{Master}
use Rattle.bus_master.specs.Transfer.{Moving, TransferPlace, direction_of, done_of, first_place, medium_of, transferred}
use Rattle.bus_master.specs.Transfer.{with_medium, words_moved}
use Rattle.bus_master.specs.Stores.{cells_of, DiffersInSmramAlone, HasSameShape, transfer_of}
use Rattle.bus_master.specs.UnderWay.{EndedSo, StandsAt}
use Rattle.bus_master.proofs.SmramLemmas.{hides_smram}

module _ (setup : Setup) (bytes : Bytes) (master : Master) (lba count : ℕ) (direction : Direction) {store new : Store}
    {place after : TransferPlace} {end : End} where
  pub all_moved : place ≡ first_place master.table → direction ≡ direction_of master →
      ((moving : Moving) → StandsAt moving store place None →
      EndedSo (words_moved setup bytes direction lba (256 * count) moving) new after end) →
      EndedSo (transfer_of setup bytes master lba count store) new after end
  unfolding transferred
  all_moved first way moved = grind (arith, nat_tests)

pub done_is : {moving : Moving} {new : Store} {after : TransferPlace} {end : End} {moved : ℕ} →
    EndedSo moving new after end →
    moved ≡ after.moved → record { end = end; moved = moved } ≡ done_of moving
done_is is moved = rw (moved, is.ends, is.come) refl

pub disk_is : {moving : Moving} {store new : Store} {after : TransferPlace} {end : End} → EndedSo moving new after end →
    HasSameShape store new → new.disk ≡ with_medium store.disk moving.medium
disk_is {moving} {store} {new} is shape = grind (arith, nat_tests)

module _ (setup : Setup) (bytes : Bytes) (master : Master) (lba count : ℕ) (store : Store)
    (aligned : master.table % 4 ≡ 0) where
  pub smram_kept : (addr : ℕ) → is_smram_range addr ≡ true →
      (transfer_of setup bytes master lba count store).cells (DramCell addr) ≡ dram_at store.dram addr
  smram_kept =
      (hides_smram setup bytes master lba count (cells_of store) (cells_of store) (medium_of store.disk) aligned
      (λ cell outside. refl)).kept

  pub same_transfer : {other : Store} → DiffersInSmramAlone store other →
      transfer_of setup bytes master lba count other
      ≡ record (transfer_of setup bytes master lba count store) {
        cells = (transfer_of setup bytes master lba count other).cells;
      }
  same_transfer {other} differs =
      rw differs.disk
      (hides_smram setup bytes master lba count (cells_of store) (cells_of other) (medium_of store.disk) aligned
      (λ h1 outside. grind (arith, nat_tests))).same
