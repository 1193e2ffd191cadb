use Rattle.std.proofs.Common.{rules, ◌≡◌, ◌+◌, ◌<◌, ◌≤◌, List, [], ◌∷◌, ◌++◌, length, flat_map, All, arith, map, ap}
use Rattle.std.proofs.Common.{append_assoc, refl, ◌∙◌}
use Rattle.board_prelude.proofs.{into_iter_items, length-append, get_or-append_seam, most_statements, reverse-append}
use Rattle.board_prelude.proofs.{map-append, length-map, Entry, Setup}
use Rattle.std.proofs.lemmas.List.Elements.{All-append, All-map}
use Rattle.board_core.specs.Kept.{Standing}
use Rattle.phase_threads.specs.declared.worker.Work.{Work}
use Rattle.phase_threads.specs.Jobs.{AreTold, IsStatement}
use Rattle.phase_threads.specs.Works.{Page, page}
use Rattle.phase_threads.proofs.Phases.{Phase, in_phase, all_in_place, statements_more, statements_within}
use Rattle.phase_threads.proofs.run.run_phases.Goals as goal

-- what holds of each phase holds of one between others
of_one : (P : Phase → Type 0) (done : List Phase) (phase : Phase) (rest : List Phase) → All P (done ++ phase ∷ rest)
    → P phase
of_one P done phase rest all =
    let less : length done < length (done ++ phase ∷ rest) = omega (arith, length-append done (phase ∷ rest)) in
    rw (get_or-append_seam done phase rest phase) at (all (length done) phase less)

room_for : (done : List Phase) (phase : Phase) (rest phases : List Phase) → done ++ phase ∷ rest ≡ phases
    → length (flat_map in_phase phases) ≤ most_statements
    → length (flat_map in_phase done) + length phase.items ≤ most_statements
room_for done phase rest phases whole most = omega (arith, rw whole at (statements_within done phase rest))

pub run_phase-requires-clause-can : goal.run_phase-requires-clause-can
run_phase-requires-clause-can g c κs within =
    let l = c.loop-phase in let phase = c.in-Some.phase in let rest : List Phase = into_iter_items c.next.new.self in
    let steps : into_iter_items l.phase-iterator ≡ phase ∷ rest = c.in-Some.ensures.steps.0 in
    let whole : l.yielded ++ phase ∷ rest ≡ c.args.phases.items = rw steps at l.invariant.left in
    let ranges = of_one (λ (one : Phase). All (IsStatement c.args.board.setup c.args.cpus) one.items) l.yielded phase
    rest (rw whole c.requires.in_range) in
    let most = length (flat_map in_phase l.yielded) in
    let room = room_for l.yielded phase rest c.args.phases.items whole c.requires.statements in let was = l.invariant in
    grind (arith, ranges, room, was, c.requires)

pub loop-phase-preserved : goal.loop-phase-preserved
loop-phase-preserved g c =
    let l = c.loop-phase in let phase = c.in-Some.phase in let was = l.invariant in
    let rest : List Phase = into_iter_items c.next.new.self in
    let steps : into_iter_items l.phase-iterator ≡ phase ∷ rest = c.in-Some.ensures.steps.0 in
    let whole : l.yielded ++ phase ∷ rest ≡ c.args.phases.items = rw steps at l.invariant.left in
    let room = room_for l.yielded phase rest c.args.phases.items whole c.requires.statements in
    let ran = c.in_ok-run.ensures in
    let asked = ran.goes_on.asked (length (flat_map in_phase l.yielded)) was.asked room in
    let more = map-append in_phase l.yielded (phase ∷ []) in
    let turned = reverse-append (map in_phase l.yielded) (phase.items ∷ []) in
    let callers = All-append (λ entry. entry.actor < c.args.cpus) ran.takes_in.added _
    (rw (ran.goes_on.count, was.count) at ran.takes_in.callers) was.callers in
    let places = all_in_place c.args.board.setup phase.items _ ran.takes_in.added _ _ ran.takes_in.adds
    ran.takes_in.size (rw was.setup at ran.takes_in.places) was.places in
    let phases = ran.takes_in.phases _ was.phases in
    let joined = append_assoc l.yielded (phase ∷ []) rest in let count = statements_more l.yielded phase in
    grind (
      arith,
      was,
      ran,
      asked,
      whole,
      steps,
      c.in-Some.ensures,
      joined,
      more,
      turned,
      places,
      phases,
      count,
      callers,
    )

pub loop-phase-init : goal.loop-phase-init
loop-phase-init g c =
    let board : Standing → List Entry = λ b. b.entries in let fitted : Standing → Setup = λ b. b.setup in
    let works : List Work = c.in_ok-works.works.items in
    let none : c.reserve.new.self.entries ≡ [] =
    ap board c.in_ok-reserve.ensures.ok ∙ ap board c.new-board.ensures.fresh in
    let setup : c.reserve.new.self.setup ≡ c.args.board.setup =
    ap fitted c.in_ok-reserve.ensures.ok ∙ (ap fitted c.new-board.ensures.fresh ∙ c.into_replay.ensures.setup) in
    let told : AreTold (λ actor. []) works = λ actor less.
    All-map (λ (p : Page). p ≡ ([], 0)) page works c.in_ok-works.ensures.none actor ([], 0)
    (rw (length-map works page) less) in
    record {
      left = search rules;
      len = search rules;
      setup = setup;
      count = c.in_ok-works.ensures.count;
      legal = rw none tt;
      same = refl;
      up_to = tt;
      callers = rw none (λ k d less. absurd (omega (arith, less)));
      told = rw none told;
      phases = rw none (search rules);
      places = tt;
      asked =
          rw none (record {
            actors = λ k d less. absurd (omega (arith, less));
            mine = λ actor. omega arith;
            asked = λ k d less. omega (arith, ap (λ (p : Page). p.1) (c.in_ok-works.ensures.none k d less));
          });
    }
