use Rattle.std.proofs.Common.{◌≡◌, ◌+◌, List, Bor, map, length, reverse, sym, ◌∙◌, ap, arith, refl}
use Rattle.board_prelude.proofs.{Entry, length-map, length-reverse, reverse-reverse}
use Rattle.run_order.specs.declared.done.Done.{Done}
use Rattle.phase_threads.specs.declared.worker.Work.{Work}
use Rattle.phase_threads.specs.Jobs.{AreAsked, GrowsBy, done_in}
use Rattle.phase_threads.proofs.Phases.{Grew, gained_within, takes_in, earlier_actors, later_actors}
use Rattle.phase_threads.proofs.run.run_phase.Given.{Over}
use Rattle.phase_threads.proofs.run.run_phase.Goals.{After-works_of}
use Rattle.phase_threads.proofs.run.run_phase.Goals as goal

-- the board's history before the phase and after it
grew : (g : Over) (c : After-works_of g) → Grew c.args.run.board.entries c.in_ok-run.run'.board.entries
    (reverse c.args.run.board.entries) (reverse c.in_ok-run.run'.board.entries)
grew g c = record {
  begins = (c.in_ok-run.ensures.run _ c.requires.told).begins;
  old = refl;
  is = refl;
}

-- what was done, as it is handed on
are_done : (g : Over) (c : After-works_of g)
    → map (λ (done : Bor (List Done)). done.now) c.works_of.result.items ≡ done_in c.in_ok-run.run'.works.items
are_done g c = c.works_of.ensures.done ∙ ap done_in c.deref-2.ensures.value

grows : (g : Over) (c : After-works_of g) → GrowsBy c.args.phase.items c.args.run c.in_ok-run.run'
grows g c = rw c.deref.ensures.value at c.in_ok-run.ensures.goes_on

asked : (g : Over) (c : After-works_of g) → AreAsked (c.requires.can.most + length c.args.phase.items)
    c.in_ok-run.run'.board.entries c.in_ok-run.run'.works.items
asked g c = (grows g c).asked c.requires.can.most c.requires.can.asked c.requires.can.room

-- how many entries there were, and how many there are
opened : (g : Over) (c : After-works_of g)
    → length c.actors-opened.result.now ≡ length (reverse c.args.run.board.entries)
opened g c =
    ap length c.actors-opened.ensures.actors
    ∙ length-map (reverse c.args.run.board.entries) (λ (entry : Entry). entry.actor)

counted : (g : Over) (c : After-works_of g)
    → length c.actors-actors.result.now ≡ length c.in_ok-run.run'.board.entries
counted g c =
    let now : List Entry = c.in_ok-run.run'.board.entries in
    ap length c.actors-actors.ensures.actors ∙ (length-map (reverse now) (λ (entry : Entry). entry.actor)
    ∙ length-reverse now)

pub add-requires : goal.add-requires
add-requires g c =
    let at = (goal.at.add-requires g c).After-works_of in let all = grew g at in
    let works : List Work = c.in_ok-run.run'.works.items in let actors = c.actors-actors.ensures.actors in
    let count : length c.works_of.result.items ≡ length works =
    sym (length-map c.works_of.result.items (λ (done : Bor (List Done)). done.now))
    ∙ (ap length (are_done g at) ∙ length-map works (λ (work : Work). work.done.items)) in
    let size = opened g at in
    record {
      gained = omega (arith, size, gained_within all, counted g at, length-reverse c.in_ok-run.run'.board.entries);
      up_to = rw (size ∙ length-reverse c.args.run.board.entries) c.requires.up_to;
      earlier = earlier_actors all (length c.args.run.works.items) (length c.actors-opened.result.now)
          c.actors-actors.result.now c.requires.can.few c.requires.can.asked.actors size actors;
      callers =
          rw count (later_actors all (length works) (length c.actors-opened.result.now)
          c.actors-actors.result.now (asked g at).actors size
          actors);
    }

pub returns-clause-goes_on : goal.returns-clause-goes_on
returns-clause-goes_on g c = grows g (goal.at.returns-clause-goes_on g c).After-works_of

pub returns-clause-takes_in : goal.returns-clause-takes_in
returns-clause-takes_in g c =
    let at = (goal.at.returns-clause-takes_in g c).After-works_of in
    let now : List Entry = c.in_ok-run.run'.board.entries in
    let ran = rw c.deref.ensures.value at (c.in_ok-run.ensures.run _ c.requires.told) in
    let legal = c.actors-actors.ensures.legal in
    let placed = c.in_ok-add.ensures.placed c.in_ok-run.run'.board.setup (reverse now) c.actors-actors.ensures.actors
    (rw (reverse-reverse now) legal) in
    let added = rw (opened g at, are_done g at) at placed in
    takes_in c.args.placing.now.order c.add.new.self.order c.version-version.result c.law_phase_runs.ensures.runs ran
    (grew g at) c.requires.cards legal (asked g at).actors
    (rw (grows g at).count c.requires.can.in_range) (c.version-version.ensures.version ∙ c.map.ensures.version)
    c.requires.legal c.requires.same added

pub returns-clause-up_to : goal.returns-clause-up_to
returns-clause-up_to g c =
    rw (counted g (goal.at.returns-clause-up_to g c).After-works_of) at c.in_ok-add.ensures.up_to

pub returns-clause-setup : goal.returns-clause-setup
returns-clause-setup g c = (c.in_ok-run.ensures.run _ c.requires.told).setup
