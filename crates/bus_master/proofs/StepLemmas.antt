-- The steps of a transfer under way, one after another.
use Rattle.std.proofs.Common.{◌≡◌, ◌≢◌, ℕ, ◌%◌, true, false, ◌&&◌, Option, Some, None, refl, sym, arith}
use Rattle.board_prelude.proofs.{nat_tests, Kind, Read, Setup, Bytes}
use Rattle.board_base.specs.declared.access.Width.TheVariants.{Four}
use Rattle.ata_pio.specs.Words.{is_readable}
use Rattle.board_chipset.specs.declared.store.Store.{Store}
use Rattle.bus_master.specs.declared.done.End.{End}
use Rattle.bus_master.specs.declared.done.End.TheVariants.{Shorter, Sector}
use Rattle.bus_master.specs.Transfer.{Moving, TransferPlace, ◌and_then◌, address_after, answered, descriptor_read}
use Rattle.bus_master.specs.Transfer.{is_used_up, master_value, medium_of, next_sector, ready_for, region_found}
use Rattle.bus_master.specs.Transfer.{region_taken, sector_tested, table_tested, with_region}
use Rattle.bus_master.specs.Stores.{cells_of}
use Rattle.bus_master.specs.UnderWay.{StandsAt}
use Rattle.bus_master.specs.Pieces.{abort_at}
use Rattle.board_chipset.specs.Stores.{IsStoreOf}
use Rattle.bus_master.proofs.HeldTargets.{master_value_same}

-- ---- a step is done unless the transfer has ended

pub taken : (moving : Moving) (step : Moving → Moving) → None ≡ moving.end → (moving and_then step) ≡ step moving
taken moving step is = rw (sym is) refl

pub stands_skipped : {store : Store} {place : TransferPlace} {moving : Moving} {end : End} (step : Moving → Moving) →
    StandsAt moving store place (Some end) → StandsAt (moving and_then step) store place (Some end)
stands_skipped step is = grind (arith, nat_tests)

module _ {store : Store} {place : TransferPlace} {moving : Moving} (is : StandsAt moving store place None) where
  -- ---- the sector

  module _ (lba : ℕ) where
    pub sector_within : place.moved % 2 ≡ 0 → place.moved % 512 ≢ 0 →
        StandsAt (sector_tested lba moving) store place None
    unfolding sector_tested
    sector_within whole within = grind (arith, nat_tests)

    pub sector_readable : is_readable (medium_of store.disk) (next_sector lba place) ≡ true →
        StandsAt (sector_tested lba moving) store place None
    unfolding sector_tested
    sector_readable readable = grind (arith, nat_tests)

    pub sector_missing : place.moved % 512 ≡ 0 → is_readable (medium_of store.disk) (next_sector lba place) ≡ false →
        StandsAt (sector_tested lba moving) store place (Some (Sector (next_sector lba place)))
    unfolding sector_tested
    sector_missing first missing = grind (arith, nat_tests)

  module _ (setup : Setup) (bytes : Bytes) where
    -- ---- an access

    pub answered_stands : (kind : Kind) (addr : ℕ) (end : Option End) → end ≡ abort_at setup bytes kind addr →
        StandsAt (answered setup bytes kind addr moving) store place end
    unfolding answered
    answered_stands kind addr end ends = grind (arith, nat_tests)

    -- ---- the two halves of a descriptor

    pub descriptor_stands : (after : TransferPlace) (base count : ℕ) → IsStoreOf setup bytes store →
        place.table % 4 ≡ 0 → after ≡ with_region base count place →
        None ≡ abort_at setup bytes Read place.table →
        None ≡ abort_at setup bytes Read (address_after place.table 4) →
        base ≡ master_value setup bytes (cells_of store) place.table Four →
        count ≡ master_value setup bytes (cells_of store) (address_after place.table 4) Four →
        StandsAt (descriptor_read setup bytes moving) store after None
    unfolding answered region_taken
    descriptor_stands after base count of aligned is_after first second is_base is_count =
        grind (arith, nat_tests, master_value_same)

    -- ---- the three tests one after another

    pub ready_over : (lba : ℕ) → (is_used_up place && place.is_last) ≡ true →
        StandsAt (ready_for setup bytes lba moving) store place (Some Shorter)
    unfolding ready_for table_tested
    ready_over lba over = grind (arith, nat_tests)

    pub ready_is : (lba : ℕ) → (is_used_up place && place.is_last) ≡ false →
        ready_for setup bytes lba moving ≡ (sector_tested lba moving and_then region_found setup bytes)
    unfolding ready_for table_tested
    ready_is lba over = grind (arith, nat_tests)

    pub found_in_use : place.left ≢ 0 → (moving and_then region_found setup bytes) ≡ moving
    unfolding region_found
    found_in_use left = grind (arith, nat_tests)

    pub found_used_up : place.left ≡ 0 →
        (moving and_then region_found setup bytes) ≡ descriptor_read setup bytes moving
    unfolding region_found
    found_used_up used = grind (arith, nat_tests)

-- `test_sector` is proved by these
pub ruleset test_sector_rules = (sector_within, sector_readable, sector_missing)
