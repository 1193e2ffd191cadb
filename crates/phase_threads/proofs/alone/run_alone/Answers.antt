use Rattle.std.proofs.Common.{rules}
use Rattle.phase_threads.specs.Acts.{CanAct}
use Rattle.phase_threads.proofs.Numbers.{told_again}
use Rattle.phase_threads.proofs.OneActs.{can_act, grows, alone_has_run}
use Rattle.phase_threads.proofs.alone.run_alone.Given.{Over}
use Rattle.phase_threads.proofs.alone.run_alone.Goals.{In_ok-works}
use Rattle.phase_threads.proofs.alone.run_alone.Goals as goal

can : (g : Over) (c : In_ok-works g)
    → CanAct c.args.actor c.args.run.board c.in_ok-works.works.items c.args.keeps c.args.phase.now
can g c =
    can_act c.in_ok-works.ensures.pages c.requires.below c.requires.can c.in_ok-works.ensures.empty
    c.in_ok-works.ensures.keeps c.requires.plain

pub do_all-requires : goal.do_all-requires
do_all-requires g c =
    (search rules, (c.args.keeps, can g (goal.at.do_all-requires g c).In_ok-works))

pub returns-clause-goes_on : goal.returns-clause-goes_on
returns-clause-goes_on g c =
    grows c.in_ok-works.ensures.pages c.requires.below _
    (c.in_ok-do_all.ensures.acted c.args.keeps (can g (goal.at.returns-clause-goes_on g c).In_ok-works))

pub returns-clause-run : goal.returns-clause-run
returns-clause-run g c = λ own told.
    let can = can g (goal.at.returns-clause-run g c).In_ok-works in
    alone_has_run own can c.requires.only (c.in_ok-do_all.ensures.acted c.args.keeps can)
    (told_again own c.args.run.works.items c.in_ok-works.works.items c.in_ok-works.ensures.pages told)
