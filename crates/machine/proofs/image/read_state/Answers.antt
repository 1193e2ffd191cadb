use Rattle.std.proofs.Common.{sym, ap, ◌∙◌, arith}
use Rattle.machine.specs.Fitted.{Fitting}
use Rattle.machine.proofs.Images.{state_exact}
use Rattle.board_prelude.proofs.{nat_tests}
use Rattle.machine.proofs.image.read_state.Goals as goal

pub returns-in-Ok-clause-exact : goal.returns-in-Ok-clause-exact
returns-in-Ok-clause-exact c saved rest is same begins =
    state_exact _ _ _ _ c.in-Ok.ensures.loaded _ _ is (same ∙ sym c.fitted.view_is) begins

pub returns-in-Err-clause-exact : goal.returns-in-Err-clause-exact
returns-in-Err-clause-exact c saved rest is same begins =
    grind (
      arith,
      nat_tests,
      c.in-Err.ensures.loaded.exact saved.serial rest
          (ap (λ (fitting : Fitting). fitting.setup) (same ∙ sym c.fitted.view_is)) is.state begins,
    )
