use Rattle.board_prelude.proofs.{nat_tests}
use Rattle.std.proofs.Common.{◌≡◌, arith}
use Rattle.config_regs.proofs.SouthStores.{south_agrees}
use Rattle.config_regs.proofs.south.South.store.Goals as goal

pub returns-then-reg-eq-SOUTH_BRIDGE-clause-stored : goal.returns-then-reg-eq-SOUTH_BRIDGE-clause-stored
returns-then-reg-eq-SOUTH_BRIDGE-clause-stored c = λ setup bytes is.
    let dev : c.args.reg.dev ≡ 1 = omega arith in rw dev (c.store_bytes.ensures.stored setup bytes is)

pub returns-clause-stored : goal.returns-clause-stored
returns-clause-stored c = λ setup bytes is. south_agrees bytes _ _ (λ fun off. grind (arith, nat_tests)) is
