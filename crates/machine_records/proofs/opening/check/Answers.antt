use Rattle.std.proofs.Common.{refl, sym}
use Rattle.machine_records.specs.Openings.{disk_of}
use Rattle.machine_records.proofs.opening.check.Goals as goal

pub returns-in-Ok-clause-fits : goal.returns-in-Ok-clause-fits
returns-in-Ok-clause-fits c =
    rw (← c.in-Some.ensures.said)
    (c.in-Ok.ensures.exact (record {
      mib = c.args.mib;
      cards = c.in-Some.few.items;
      rom = c.args.rom.now;
      disk = disk_of
          c.args.disk.now;
    }) (record {
      mib_is = refl;
      cards_are = sym c.deref.ensures.0;
      rom_is = refl;
      disk_is =
          c.disk_length.ensures.length;
    }))
