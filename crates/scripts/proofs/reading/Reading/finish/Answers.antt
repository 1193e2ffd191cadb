use Rattle.std.proofs.Common.{arith, refl}
use Rattle.board_prelude.proofs.{nat_tests}
use Rattle.scripts.proofs.Reasons.{setup_kept, lacks_is}
use Rattle.scripts.proofs.reading.Reading.finish.Goals as goal

pub returns-in_default-clause-lacks : goal.returns-in_default-clause-lacks
returns-in_default-clause-lacks c items is = rw (lacks_is _ is.whole, setup_kept _ _ is, c.in_default.is) refl

pub returns-in_default-mib-clause-lacks : goal.returns-in_default-mib-clause-lacks
returns-in_default-mib-clause-lacks c items is =
    rw (lacks_is items is.whole, setup_kept items c.args.self is, c.in-Some.is, c.in_default-mib.is) refl

pub returns-in_default-rom-clause-lacks : goal.returns-in_default-rom-clause-lacks
returns-in_default-rom-clause-lacks c items is =
    rw (lacks_is _ is.whole, setup_kept _ _ is, c.in-Some.is, c.in-Some-mib.is, c.in_default-rom.is) refl

pub returns-clause-whole : goal.returns-clause-whole
returns-clause-whole c items is = (
  rw (lacks_is items is.whole, setup_kept items c.args.self is, c.in-Some.is, c.in-Some-mib.is, c.in-Some-rom.is) refl,
  grind (arith, nat_tests, is.cpus, is.mib, is.rom),
)
