use Rattle.south_bridge.proofs.PortLemmas.{keyboard_answers, clock_answers, disk_answers}
use Rattle.south_bridge.proofs.laws.law_selected_ports.Goals as goal

pub returns : goal.returns
returns c =
    let apart = c.ports_are_apart.ensures.devices in
    let config = c.ports_are_apart.ensures.config in
    record {
      keyboard = keyboard_answers apart config;
      clock = clock_answers apart config;
      disk = disk_answers apart config;
    }
