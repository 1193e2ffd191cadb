use Rattle.board_devices.proofs.DeviceLemmas.{at_power_on}
use Rattle.board_devices.proofs.devices.Devices.at_power_on.Goals as goal

pub returns : goal.returns
returns c = record {
  fresh = λ setup disk. at_power_on setup _ c.new-2.ensures.state c.new-3.ensures.state c.new-4.ensures.edges
      c.new-5.ensures.reset disk c.low.ensures.low c.low-2.ensures.low c.new.ensures.power_on;
}
