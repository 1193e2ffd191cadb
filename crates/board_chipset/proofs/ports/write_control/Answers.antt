use Rattle.board_prelude.proofs.{nat_tests}
use Rattle.std.proofs.Common.{◌≡◌, ◌∙◌, true, refl, sym, arith}
use Rattle.board_spec.specs.Registers.{is_hard_reset}
use Rattle.board_chipset.proofs.PortSteps.{reached_in, entry_writes, puts_none, registers_move}
use Rattle.board_chipset.proofs.StateSteps.{stores_stay}
use Rattle.board_chipset.proofs.ports.write_control.Goals as goal

pub overflow_cast-access : goal.overflow_cast-access
overflow_cast-access c =
    let reaching = c.requires.reaching in
    grind (arith, nat_tests, (reached_in reaching).1, rw c.requires.writes at reaching.bus.fits)

pub returns-then-write_control-clause-board : goal.returns-then-write_control-clause-board
returns-then-write_control-clause-board c = λ setup history entry kept is.
    let writes = entry_writes refl c.requires.writes is in
    let registers = c.write_control.ensures.registers setup history entry writes kept.registers in
    let hard : is_hard_reset history entry.event ≡ true =
    rw (writes.control_is, ← kept.registers.control) (sym c.write_control.ensures.hard ∙ c.if-write_control.true) in
    assumption (
      registers,
      stores_stay {entry = entry} kept.stores (puts_none is (λ cell. refl)),
      c.reset.ensures.reset setup history entry kept.devices hard registers.kept.south.routes,
    )

pub returns-else-write_control-clause-board : goal.returns-else-write_control-clause-board
returns-else-write_control-clause-board c = λ setup history entry kept is.
    let writes = entry_writes refl c.requires.writes is in
    let soft = sym c.write_control.ensures.hard ∙ c.if-write_control.false in
    registers_move kept is refl (λ cell. refl)
    (c.write_control.ensures.registers setup history entry writes kept.registers) (c.write_control.ensures.south soft)
    (rw (writes.control_is, ← kept.registers.control) soft)
