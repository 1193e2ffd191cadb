use Rattle.std.proofs.Common.{◌≡◌, ◌+◌, ◌≤◌, List, length, take}
use Rattle.board_prelude.proofs.{Entry, entries_by, events_by}
use Rattle.phase_threads.specs.Works.{HasDone, page, page_of}
use Rattle.phase_threads.proofs.worker.Work.run.Given as goal

abbrev pub invariant-loop-statement : goal.invariant-loop-statement
invariant-loop-statement g l = record {
  own : g.C.Caller.is_of l.shared l.cpu;
  number : g.C.Caller.number l.cpu ≡ g.C.Caller.number l.fn.cpu;
  setup : g.C.Caller.setup l.cpu ≡ g.C.Caller.setup l.fn.cpu;
  fixed : g.C.Caller.fixed l.cpu ≡ g.C.Caller.fixed l.fn.cpu;
  is : l.number ≡ g.C.Caller.number l.fn.cpu;
  keeps : l.self.keeps ≡ l.fn.self.keeps;
  done : (own : List Entry) → page l.fn.self ≡ page_of own →
      HasDone (g.C.Caller.setup l.fn.cpu) (g.C.Caller.number l.fn.cpu) (g.C.Caller.seen l.fn.cpu)
      (events_by l.number (take l.statement-index l.phase)) own l.fn.self.keeps l.self (g.C.Caller.seen l.cpu)
      (g.C.Caller.known l.cpu);
  mine : length (entries_by (g.C.Caller.number l.fn.cpu) (g.C.Caller.seen l.cpu)) ≤ length
      (entries_by (g.C.Caller.number l.fn.cpu) (g.C.Caller.seen l.fn.cpu)) + l.statement-index;
  asked : l.self.asked ≤ l.fn.self.asked + l.statement-index;
}
