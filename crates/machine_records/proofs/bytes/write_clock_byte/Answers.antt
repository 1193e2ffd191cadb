use Rattle.std.proofs.Common.{inl, inr, refl}
use Rattle.std.proofs.lemmas.Bool.{cases_lt}
use Rattle.machine_records.specs.Bytes.{clock_bytes}
use Rattle.machine_records.proofs.bytes.write_clock_byte.Goals as goal

pub returns-in-Ok : goal.returns-in-Ok
returns-in-Ok c = record {
  outcome = record {
    done = λ ok. record {
      within =
          elim (cases_lt c.args.address clock_bytes) [
            | inl below ↦ below
            | inr past ↦ absurd (cc (c.in-Ok.ensures.refused.1 past))
          ];
      setup = c.in-Ok.ensures.setup;
      com1 = c.in-Ok.ensures.com1;
      left = c.in-Ok.ensures.left;
    };
    refused = λ refused. absurd (refused refl);
    unchanged = λ refused. absurd (refused refl);
    not_closed = λ is. absurd (cc is);
  };
}
