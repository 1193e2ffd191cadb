use Rattle.std.proofs.Common.{rules, refl}
use Rattle.phase_threads.proofs.Told.{none_done}
use Rattle.phase_threads.proofs.worker.Work.run.Goals as goal

pub loop-statement-init : goal.loop-statement-init
loop-statement-init g c = record {
  own = c.requires.own;
  number = refl;
  setup = refl;
  fixed = refl;
  is = c.number-number.ensures.number;
  keeps = refl;
  done = λ own is.
      rw c.requires.known (none_done (g.C.Caller.setup c.args.cpu.now) (g.C.Caller.number c.args.cpu.now)
      (g.C.Caller.seen c.args.cpu.now) own c.args.self.now.keeps c.args.self.now c.requires.empty is);
  mine = search rules;
  asked = search rules;
}
