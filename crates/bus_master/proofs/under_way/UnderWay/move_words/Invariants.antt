use Rattle.std.proofs.Common.{◌≡◌, ◌/◌, ◌%◌, ◌-◌, ◌≤◌, None}
use Rattle.board_prelude.proofs.{Setup, Bytes}
use Rattle.bus_master.specs.Transfer.{Moving, words_moved}
use Rattle.bus_master.specs.Stores.{HasSameShape}
use Rattle.bus_master.specs.UnderWay.{HasSector, StandsAt}
use Rattle.board_chipset.specs.Stores.{IsStoreOf}
use Rattle.bus_master.proofs.under_way.UnderWay.move_words.Given as goal

abbrev pub invariant-loop-self : goal.invariant-loop-self
invariant-loop-self l = record {
  shape : HasSameShape l.fn.store l.store;
  most : l.self.moved ≤ l.bytes;
  whole : l.self.moved % 2 ≡ 0;
  sector : HasSector l.lba l.store l.self;
  stands : (setup : Setup) (bytes : Bytes) (moving : Moving) → IsStoreOf setup bytes l.fn.store →
      StandsAt moving l.fn.store l.fn.self None →
      StandsAt (words_moved setup bytes l.direction l.lba (l.self.moved / 2) moving) l.store l.self None;
}

abbrev pub decreases-loop-self : goal.decreases-loop-self
decreases-loop-self l = l.bytes - l.self.moved
