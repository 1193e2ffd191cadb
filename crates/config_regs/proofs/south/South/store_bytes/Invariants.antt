-- The registers so far are those after the first bytes.
use Rattle.board_prelude.proofs.{Setup, Bytes}
use Rattle.south_bridge.specs.Piix.{piix_register}
use Rattle.config_regs.specs.Config.{IsSouthOf}
use Rattle.addr_decode.proofs.StandsLemmas.{stored_so_far}
use Rattle.config_regs.proofs.south.South.store_bytes.Given as goal

abbrev pub invariant-loop-index : goal.invariant-loop-index
invariant-loop-index l = record {
  stored : (setup : Setup) (bytes : Bytes) → IsSouthOf bytes l.fn.self →
      IsSouthOf (stored_so_far setup bytes (piix_register l.fun l.off) l.value l.index) l.self;
}
