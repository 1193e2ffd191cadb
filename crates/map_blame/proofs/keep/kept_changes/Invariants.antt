use Rattle.std.specs.Prelude.{reverse}
use Rattle.board_prelude.proofs.{Setup, IsCardList, Bytes}
use Rattle.addr_decode.specs.MapRegs.{StandsFor, map_bytes}
use Rattle.map_blame.proofs.KeptLemmas.{AreKept}
use Rattle.map_blame.proofs.keep.kept_changes.Given as goal

abbrev pub invariant-loop-index : goal.invariant-loop-index
invariant-loop-index l = record {
  kept : (setup : Setup) (bytes : Bytes) → StandsFor setup bytes (map_bytes l.regs) → IsCardList setup.cards →
      AreKept setup (reverse l.changes) l.index l.keep.items;
}
