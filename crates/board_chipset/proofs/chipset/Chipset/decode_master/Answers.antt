use Rattle.std.proofs.Common.{sym}
use Rattle.board_chipset.proofs.HeldTargets.{stands}
use Rattle.board_chipset.proofs.MasterSteps.{no_smram, outside_smram}
use Rattle.board_chipset.proofs.chipset.Chipset.decode_master.Goals as goal

pub returns-clause-no_smram : goal.returns-clause-no_smram
returns-clause-no_smram c =
    let setup = c.self.inside.setup in
    let stand = stands c.self.invariant c.regs-regs.ensures.same in
    let bytes = c.self.invariant.registers.bytes in
    rw (
      c.target_in.ensures.target setup stand.cards.0 (sym c.rom.ensures.bytes),
      c.decode_master-area.ensures.area setup bytes stand,
    ) (no_smram setup bytes c.args.kind c.args.addr)

pub returns-clause-outside : goal.returns-clause-outside
returns-clause-outside c =
    let setup = c.self.inside.setup in
    let stand = stands c.self.invariant c.regs-regs.ensures.same in
    let bytes = c.self.invariant.registers.bytes in
    rw (
      c.target_in.ensures.target setup stand.cards.0 (sym c.rom.ensures.bytes),
      c.decode_master-area.ensures.area setup bytes stand,
    ) (outside_smram setup bytes c.args.kind c.args.addr)
