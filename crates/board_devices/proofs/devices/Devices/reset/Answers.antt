use Rattle.std.proofs.Common.{◌≡◌, ◌∷◌}
use Rattle.board_prelude.proofs.{pair_at_reset, levels_of}
use Rattle.board_devices.specs.Devices.{AreAfter}
use Rattle.board_devices.proofs.DeviceLemmas.{reset_after, reset_pair, with_pair, settled_as}
use Rattle.board_devices.proofs.devices.Devices.reset.Goals as goal

pub returns-clause-reset : goal.returns-clause-reset
returns-clause-reset c = λ setup history entry is hard routes.
    let old = c.args.self.now in
    let now = entry ∷ history in
    let machines : AreAfter setup now c.reset_machines.new.self =
    reset_after setup history entry hard old c.reset_machines.new.self is.others c.reset_machines.ensures.after in
    let levels : c.levels-levels.result ≡ levels_of setup now =
    c.levels-levels.ensures.levels setup now machines routes in
    let others : AreAfter setup now c.reset_pair.new.self =
    rw c.reset_pair.ensures.after
    (with_pair setup now c.reset_machines.new.self (pair_at_reset c.levels-levels.result) machines) in
    settled_as setup now c.reset_pair.new.self c.settle.new.self others c.settle.ensures.others
    (c.settle.ensures.pair setup now others routes)
    (cc (reset_pair setup history entry hard, c.reset_pair.ensures.after, levels))
