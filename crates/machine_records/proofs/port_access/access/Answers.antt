use Rattle.std.proofs.Common.{◌∙◌, refl, sym}
use Rattle.machine_records.proofs.PortCycles.{never_closed}
use Rattle.machine_records.proofs.port_access.access.Goals as goal

pub returns-then-status-ne-OK : goal.returns-then-status-ne-OK
returns-then-status-ne-OK c =
    let status = c.port_status-status.ensures.status in
    record {
      outcome = record {
        done = λ is. absurd (c.if-status-ne-OK.true is);
        refused = λ other. status;
        unchanged = λ other. (refl, refl);
        not_closed = λ is. never_closed c.args.port c.args.bytes c.args.value (sym status ∙ is);
      };
    }
