use Rattle.std.proofs.Common.{refl}
use Rattle.machine_records.proofs.Masters.{no_smram_said, outside_said}
use Rattle.machine_records.proofs.master.decode_master.Goals as goal

pub returns : goal.returns
returns c =
    let part = c.decode_master.result in
    record {
      outcome = record {
        done = λ ok. record {
          cycle = c.is_cycle.ensures.cycle c.if-not-is_cycle.false;
          part = λ history left.
              rw (c.of_part.ensures.part, c.decode_master.ensures.part history left, c.kind_of.ensures.kind) refl;
          held = λ registers holds.
              rw (c.of_part.ensures.part, c.decode_master.ensures.held registers holds, c.kind_of.ensures.kind) refl;
          no_smram = rw (c.of_part.ensures.part)
              (no_smram_said part.target part.denial c.decode_master.ensures.no_smram);
          outside = rw (c.of_part.ensures.part)
              (outside_said part.target part.denial c.args.addr c.decode_master.ensures.outside);
        };
        refused = λ refused. absurd (refused refl);
        unchanged = λ refused. absurd (refused refl);
        not_closed = λ is. absurd (cc is);
      };
    }
