use Rattle.std.proofs.Common.{◌<◌, ◌⊎◌, arith, inl, inr, sym, ◌∙◌}
use Rattle.host_bridge.proofs.PmcLemmas.{bare}
use Rattle.host_bridge.proofs.pmc.Pmc.read.Goals as goal
use Rattle.host_bridge.proofs.pmc.Pmc.read.Goals.{in_default-via-then-off-lt96}
use Rattle.host_bridge.proofs.pmc.Pmc.read.Goals.{in_default-via-else-off-lt96+else-off-lt104}

pub returns-in_default : goal.returns-in_default
returns-in_default c =
    let outside : (c.args.off < 0x60) ⊎ (0x68 < c.args.off) =
    elim c.in_default.branch [
      | in_default-via-then-off-lt96 w ↦ inl (omega arith)
      | in_default-via-else-off-lt96+else-off-lt104 w ↦ inr (omega arith)
    ] in
    record {
      byte = λ bytes is_pmc.
          c.fixed_byte.ensures.byte bare ∙ sym (is_pmc.fixed bare c.args.off (c.requires.offset, outside));
    }
