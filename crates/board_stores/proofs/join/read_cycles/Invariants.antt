use Rattle.std.proofs.Common.{◌≡◌, List, drop}
use Rattle.board_prelude.proofs.{Entry, Setup}
use Rattle.board_stores.specs.Puts.{HasStores}
use Rattle.board_stores.proofs.JoinLemmas.{IsLeft, value_of, IsSoFar}
use Rattle.board_stores.proofs.join.read_cycles.Given as goal

abbrev pub invariant-loop-cycle : goal.invariant-loop-cycle
invariant-loop-cycle l = record {
  left : IsLeft (drop l.cycle-index l.cycles) l.shift;
  value : (setup : Setup) (history : List Entry) → HasStores setup history l.stores → setup.rom ≡ l.rom →
      IsSoFar (value_of setup history) l.cycles l.cycle-index l.value l.shift;
}
