use Rattle.logs.proofs.ReadLines.{none_uncut, line_told}
use Rattle.logs.proofs.read.next_entry.Goals as goal

pub returns-in_default-clause-exact : goal.returns-in_default-clause-exact
returns-in_default-clause-exact c = none_uncut c.args.version c.args.n c.args.rest.now c.in_default.ensures.parts

pub returns-in-Some-2-clause-exact : goal.returns-in-Some-2-clause-exact
returns-in-Some-2-clause-exact c =
    rw c.in-Some-2.is at (line_told c.args.version c.args.n c.args.rest.now c.in-Some.line.now c.in-Some.after.now
    c.in_ok-entry.field-0 c.in-Some.ensures.parts c.in_ok-entry.ensures.exact)

pub returns-in-None-clause-exact : goal.returns-in-None-clause-exact
returns-in-None-clause-exact c =
    rw c.in-None.is at (line_told c.args.version c.args.n c.args.rest.now c.in-Some.line.now c.in-Some.after.now
    c.in_ok-entry.field-0 c.in-Some.ensures.parts c.in_ok-entry.ensures.exact)
