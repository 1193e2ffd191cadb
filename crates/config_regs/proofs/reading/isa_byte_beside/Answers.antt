use Rattle.std.proofs.Common.{◌∙◌, sym, arith, inl, inr}
use Rattle.south_bridge.specs.Piix.{IsIsaFixed, IsOffRouting}
use Rattle.config_regs.proofs.reading.isa_byte_beside.Goals as goal
use Rattle.config_regs.proofs.reading.isa_byte_beside.Goals.{in_default-via-then-off-lt96}
use Rattle.config_regs.proofs.reading.isa_byte_beside.Goals.{in_default-via-else-off-lt96+else-off-lt100}

pub returns-in_default : goal.returns-in_default
returns-in_default c =
    let routing : IsOffRouting c.args.off =
    elim c.in_default.branch [
      | in_default-via-then-off-lt96 w ↦ inl (omega arith)
      | in_default-via-else-off-lt96+else-off-lt100 w ↦ inr (omega arith)
    ] in
    let fixed : IsIsaFixed c.args.off = record { select = c.requires.other; routing = routing } in
    record { byte = λ setup bytes is has. c.isa_fixed_byte.ensures.byte setup ∙ sym (has.isa_bytes c.args.off fixed) }
