use Rattle.std.proofs.Common.{refl}
use Rattle.board_chipset.proofs.PortSteps.{register_within, entry_writes, passes, puts_none, registers_move}
use Rattle.board_chipset.proofs.StateSteps.{stores_stay, soft}
use Rattle.board_chipset.proofs.ports.write_register.Goals as goal

pub store-requires-clause-within : goal.store-requires-clause-within
store-requires-clause-within c = register_within c.requires.reaching

pub returns-then-store-clause-board : goal.returns-then-store-clause-board
returns-then-store-clause-board c = λ setup history entry kept is.
    let writes = entry_writes refl c.requires.writes is in
    let registers = c.store.ensures.registers setup history entry kept.registers writes in
    assumption (
      registers,
      stores_stay {entry = entry} kept.stores (puts_none is (λ cell. refl)),
      c.reroute.ensures.devices setup history entry kept.devices
          (record { passes = passes is refl; soft = soft writes }) registers.kept.south.routes,
    )

pub returns-else-store-clause-board : goal.returns-else-store-clause-board
returns-else-store-clause-board c = λ setup history entry kept is.
    let writes = entry_writes refl c.requires.writes is in
    registers_move kept is refl (λ cell. refl)
    (c.store.ensures.registers setup history entry kept.registers writes)
    (c.store.ensures.south (c.store.ensures.other c.if-store.false)) (soft writes)
