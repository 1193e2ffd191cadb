use Rattle.std.proofs.Common.{rules, ◌≡◌, List, Some, reverse}
use Rattle.board_prelude.proofs.{Entry, reverse-reverse}
use Rattle.run_log.specs.Lines.{AreLinesOf}
use Rattle.phase_threads.specs.Placed.{entries_of, actors_in}
use Rattle.phase_threads.proofs.ended.EndedRun.log.Given.{Over}
use Rattle.phase_threads.proofs.ended.EndedRun.log.Goals.{After-deref-3}
use Rattle.phase_threads.proofs.ended.EndedRun.log.Goals as goal

-- the lines are those of the history, in the order that was placed
are_lines : (g : Over) (c : After-deref-3 g) → AreLinesOf c.deref-2.result.now c.deref-3.result.now
    (reverse (entries_of c.self.inside.order c.self.inside.board.entries))
are_lines g c =
    let own : List Entry = c.self.inside.board.entries in
    let some : c.self.inside.order ≡ Some c.in-Some.order = search rules in
    let actors : c.in_ok-actors.actors.items ≡ actors_in (entries_of c.self.inside.order own) =
    rw some (c.in_ok-actors.ensures.actors (reverse own)) in
    rw (c.deref-2.ensures.value, c.deref-3.ensures.value, actors) c.self.invariant.each

pub log_of_lines-requires-2-clause-lines : goal.log_of_lines-requires-2-clause-lines
log_of_lines-requires-2-clause-lines g c κs within = (
  reverse (entries_of c.self.inside.order c.self.inside.board.entries),
  are_lines g (goal.at.log_of_lines-requires-2-clause-lines g c).After-deref-3,
)

pub returns : goal.returns
returns g c =
    let history : List Entry = entries_of c.self.inside.order c.self.inside.board.entries in
    let text = c.log_of_lines-2.ensures.text (reverse history) (are_lines g (goal.at.returns g c).After-deref-3) in
    record { text = rw (← c.self.view_is) (rw (reverse-reverse history) at text) }
