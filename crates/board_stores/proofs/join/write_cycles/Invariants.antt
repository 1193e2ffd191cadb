use Rattle.std.proofs.Common.{ℕ, List, drop}
use Rattle.board_stores.specs.declared.stores.Stores.{Stores}
use Rattle.board_stores.specs.Puts.{ArePut}
use Rattle.board_stores.specs.Cycles.{AreReady}
use Rattle.board_stores.proofs.PutLemmas.{cycles_put}
use Rattle.board_stores.proofs.join.write_cycles.Given as goal

abbrev pub invariant-loop-cycle : goal.invariant-loop-cycle
invariant-loop-cycle l = record {
  ready : (rom : List ℕ) × AreReady rom l.stores.contents l.cycles;
  put : (last : Stores) → ArePut (cycles_put (drop l.cycle-index l.cycles)) l.stores last →
      ArePut (cycles_put l.cycles) l.fn.stores last;
}
