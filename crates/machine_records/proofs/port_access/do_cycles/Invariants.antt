use Rattle.std.proofs.Common.{◌≤◌, ◌-◌}
use Rattle.machine_records.proofs.PortCycles.{GoesOn}
use Rattle.machine_records.proofs.port_access.do_cycles.Given as goal

abbrev pub invariant-loop-done : goal.invariant-loop-done
invariant-loop-done l = record {
  within : l.done ≤ l.access.bytes;
  index : l.index ≤ l.done;
  on : GoesOn l.access l.index l.done l.fn.machine l.fn.reply l.machine l.reply;
}

abbrev pub decreases-loop-done : goal.decreases-loop-done
decreases-loop-done l = l.access.bytes - l.done
