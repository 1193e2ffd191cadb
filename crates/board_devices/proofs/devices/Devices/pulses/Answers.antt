use Rattle.std.proofs.Common.{◌∙◌, ◌∷◌, ap, sym}
use Rattle.board_prelude.proofs.{out_of}
use Rattle.board_devices.specs.Devices.{DevicesValue}
use Rattle.board_devices.proofs.PulseLemmas.{routes_pulsed, after_run, gave, rested}
use Rattle.board_devices.proofs.devices.Devices.pulses.Goals as goal

pub returns-then-moved-clause-devices : goal.returns-then-moved-clause-devices
returns-then-moved-clause-devices c = λ setup history entry is asks routes.
    let after = c.run-rises.ensures.after in
    gave is asks after c.run-rises.ensures.rose c.run-rises.ensures.out0 c.give.ensures.others
    (c.give.ensures.pair setup (entry ∷ history) (after_run is asks after) (routes ∙ sym (routes_pulsed setup asks)))

-- line 0 did not move
pub returns-else-moved-clause-devices : goal.returns-else-moved-clause-devices
returns-else-moved-clause-devices c = λ setup history entry is asks routes.
    rested is asks c.run-rises.ensures.after (sym c.run-rises.ensures.rose ∙ c.moved.ensures.rose c.if-moved.false)
    (sym c.run-rises.ensures.out0 ∙ (c.moved.ensures.level c.if-moved.false
    ∙ (c.out-before.ensures.level ∙ ap (λ (d : DevicesValue). out_of 0 d.timer) c.self.view_is)))
