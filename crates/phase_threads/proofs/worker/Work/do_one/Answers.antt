use Rattle.std.proofs.Common.{rules, ◌+◌}
use Rattle.phase_threads.proofs.OneMore.{one_more}
use Rattle.phase_threads.proofs.worker.Work.do_one.Goals as goal

pub returns-in_ok-push-2-clause-done : goal.returns-in_ok-push-2-clause-done
returns-in_ok-push-2-clause-done g c = λ opened own events so_far.
    one_more _ c.args.event.now c.in_ok-done.reply c.in_ok-done.done _ _ so_far
    (λ done trace. c.in_ok-done.ensures.done opened done trace) c.in_ok-done.ensures.said c.in_ok-done.ensures.told
    (record {
      actor = c.number-actor.result;
      seq = c.args.self.now.asked + 1;
      event = c.args.event.now;
      reply = c.in_ok-done.reply;
    })
    (search rules) (search rules) (search rules) (λ on. search rules) (λ off. search rules) c.requires.plain

pub returns-else-self-clause-done : goal.returns-else-self-clause-done
returns-else-self-clause-done g c = λ opened own events so_far.
    one_more _ c.args.event.now c.in_ok-done.reply c.in_ok-done.done _ _ so_far
    (λ done trace. c.in_ok-done.ensures.done opened done trace) c.in_ok-done.ensures.said c.in_ok-done.ensures.told
    (record {
      actor = c.number-actor.result;
      seq = c.args.self.now.asked + 1;
      event = c.args.event.now;
      reply = c.in_ok-done.reply;
    })
    (search rules) (search rules) (search rules) (λ on. search rules) (λ off. search rules) c.requires.plain
