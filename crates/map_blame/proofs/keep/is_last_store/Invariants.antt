use Rattle.std.proofs.Common.{◌≡◌, false, take}
use Rattle.board_prelude.proofs.{list_any, reg_after, Setup, IsCardList, Bytes}
use Rattle.addr_decode.specs.MapRegs.{StandsFor, map_bytes}
use Rattle.addr_decode.proofs.NameLemmas.{offsets}
use Rattle.map_blame.specs.Covers.{is_last_at}
use Rattle.map_blame.proofs.keep.is_last_store.Given as goal

abbrev pub invariant-loop-k : goal.invariant-loop-k
invariant-loop-k l = record {
  none : (setup : Setup) (bytes : Bytes) → StandsFor setup bytes (map_bytes l.regs) → IsCardList setup.cards →
      list_any (λ k. is_last_at setup l.covers l.number (reg_after l.reg k)) (take l.k offsets) ≡ false;
}
