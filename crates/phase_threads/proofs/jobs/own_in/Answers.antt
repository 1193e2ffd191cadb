use Rattle.std.proofs.Common.{rules, take, arith}
use Rattle.board_prelude.proofs.{get_or-replicate, length-take-le}
use Rattle.phase_threads.proofs.Numbers.{few_by, counts_more}
use Rattle.phase_threads.proofs.jobs.own_in.Goals as goal

pub loop-statement-init : goal.loop-statement-init
loop-statement-init c = record { many = search rules; own = λ actor below. get_or-replicate 256 actor 0 0 below }

pub overflow_add-counts : goal.overflow_add-counts
overflow_add-counts c =
    let l = c.loop-statement in
    let few = few_by c.from.result (take l.statement-index c.args.phase.now) in
    let size = length-take-le l.statement-index c.args.phase.now l.auto.statement-index-end in
    record { fits = omega (arith, few, l.invariant.own c.from.result (search rules), size, c.loop-statement-test.true) }

pub loop-statement-preserved : goal.loop-statement-preserved
loop-statement-preserved c =
    let l = c.loop-statement in
    record {
      many = search rules;
      own = λ actor below. counts_more l.counts c.args.phase.now l.statement-index _ c.from.result actor
          l.invariant.many below c.loop-statement-test.true c.from.ensures (l.invariant.own actor below);
    }
