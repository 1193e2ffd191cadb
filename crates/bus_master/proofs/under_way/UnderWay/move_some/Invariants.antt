use Rattle.std.proofs.Common.{◌≡◌, ◌+◌, ◌*◌, None}
use Rattle.board_prelude.proofs.{Setup, Bytes}
use Rattle.bus_master.specs.Transfer.{Moving, address_after}
use Rattle.bus_master.specs.Stores.{HasSameShape}
use Rattle.bus_master.specs.UnderWay.{StandsAt}
use Rattle.board_chipset.specs.Stores.{IsStoreOf}
use Rattle.bus_master.specs.Pieces.{copied}
use Rattle.bus_master.proofs.WordLemmas.{reached_by}
use Rattle.bus_master.proofs.under_way.UnderWay.move_some.Given as goal

abbrev pub invariant-loop : goal.invariant-loop
invariant-loop l = record {
  shape : HasSameShape l.fn.store l.store;
  addr : l.self.addr ≡ address_after l.initial.self.addr (2 * l.counter);
  left : l.initial.self.left ≡ l.self.left + 2 * l.counter;
  moved : l.self.moved ≡ l.initial.self.moved + 2 * l.counter;
  stands :
      (setup : Setup) (bytes : Bytes) (moving : Moving) → IsStoreOf setup bytes l.fn.store →
      StandsAt moving l.fn.store l.fn.self None →
      StandsAt
      (copied setup bytes l.direction l.lba l.counter (reached_by setup bytes l.direction l.lba moving))
      l.store l.self None;
}
