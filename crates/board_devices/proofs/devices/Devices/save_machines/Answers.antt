use Rattle.pit_8254.proofs.Saved.{joined}
use Rattle.pic_pair.specs.State.{pair_bytes, lines_bytes}
use Rattle.pit_8254.specs.State.{pit_bytes}
use Rattle.cmos_clock.specs.State.{clock_bytes}
use Rattle.south_bridge.specs.RoutingState.{triggers_bytes}
use Rattle.board_devices.specs.State.{machines_bytes, plain_bytes}
use Rattle.board_devices.proofs.devices.Devices.save_machines.Goals as goal

pub returns-clause-saved : goal.returns-clause-saved
unfolding machines_bytes
returns-clause-saved c =
    let are = c.self.inside in
    let result = c.save_state-7.result in
    rw (← c.self.view_is)
    (joined result c.args.into.now.items _ _ (pair_bytes are.pair) _ c.in_ok-save_state.ensures.saved
    (joined result c.save_state.new.into.items _ _ (pit_bytes are.timer) _ c.in_ok-save_state-2.ensures.saved
    (joined result c.save_state-2.new.into.items _ _ (clock_bytes are.clock) _ c.in_ok-save_state-3.ensures.saved
    (joined result c.save_state-3.new.into.items _ _ (triggers_bytes are.triggers) _ c.in_ok-save_state-4.ensures.saved
    (joined result c.save_state-4.new.into.items _ _ (plain_bytes are.plain) _ c.in_ok-save_state-5.ensures.saved
    (joined result c.save_state-5.new.into.items _ _ (lines_bytes are.wires) (lines_bytes are.irqs)
    c.in_ok-save_state-6.ensures.saved c.save_state-7.ensures.saved))))))
