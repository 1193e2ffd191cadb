use Rattle.std.proofs.Common.{rules, ◌≡◌, ℕ, ◌+◌, ◌<◌, ◌≤◌, ◌++◌, List, All, length, map, take, drop, sym, ◌∙◌, ap}
use Rattle.std.proofs.Common.{arith, false, Some, reverse, refl, [], slice_index_or}
use Rattle.board_prelude.proofs.{most_statements, length-map, length-reverse}
use Rattle.phase_threads.specs.declared.jobs.Job.{Job}
use Rattle.phase_threads.specs.Jobs.{IsReadyToWork, AreAsked, page_by}
use Rattle.phase_threads.specs.Works.{Page, page_of}
use Rattle.phase_threads.proofs.Numbers.{same_lengths, numbered_length, asked_again, lent_back, pages_length}
use Rattle.phase_threads.proofs.Workers.{numbers_stay, all_run, cpu_in, work_in, number_in, number_by, ready, begun}
use Rattle.phase_threads.proofs.Workers.{HaveRun, all_again, listed, has_run, are_asked}
use Rattle.phase_threads.proofs.run.run_workers.Given.{Over}
use Rattle.phase_threads.proofs.run.run_workers.Goals.{After-len-2, After-begin, After-end}
use Rattle.phase_threads.proofs.run.run_workers.Goals as goal

-- there are as many workers as processors
many : (g : Over) (c : After-len-2 g) → c.len-2.result ≡ length c.args.run.works.items
many g c =
    let listed : c.in_ok-works.works.len ≡ length c.in_ok-works.works.items = search rules in
    c.len-2.ensures
    ∙ (listed ∙ pages_length c.args.run.works.items c.in_ok-works.works.items c.in_ok-works.ensures.pages)

-- the jobs are ready to work
all_ready : (g : Over) (c : After-begin g) (most : ℕ) → AreAsked most c.args.run.board.entries c.args.run.works.items
    → most + length c.args.phase.now ≤ most_statements
    → All (IsReadyToWork c.in-Ok.live (begun c.args.run.board (Some c.in-Ok.ensures.opened.all.opened)
    c.in_ok-works.works.items c.args.keeps most) c.args.phase.now) c.begin.new.jobs.items
all_ready g c most asked room =
    let next = asked_again most c.args.run.works.items c.in_ok-works.works.items c.in_ok-works.ensures.pages asked.asked
    in
    ready c.begin.new.jobs.items c.in-Ok.ensures.opened c.begin.ensures.cpus c.in_ok-works.works.items c.args.keeps most
    c.begin.ensures.works c.in_ok-works.ensures.empty c.in_ok-works.ensures.keeps c.in_ok-works.ensures.due next
    (λ k d less. (c.requires.can.in_range k d less).event) c.requires.plain asked.mine room

-- when they have run, they are as they were numbered, and their callers and works come back
numbers : (g : Over) (c : After-end g) → map number_in c.run_jobs.new.jobs ≡ map number_in c.begin.new.jobs.items
numbers g c =
    numbers_stay c.in-Ok.live c.args.phase.now c.deref_mut.result.now c.run_jobs.new.jobs c.run_jobs.ensures.runs
    ∙ ap (map number_in) c.deref_mut.ensures.value

back : (g : Over) (c : After-end g)
    → take c.begin.new.jobs.len (c.run_jobs.new.jobs ++ drop (length c.run_jobs.new.jobs) c.begin.new.jobs.items)
    ≡ c.run_jobs.new.jobs
back g c =
    let len : c.begin.new.jobs.len ≡ length c.begin.new.jobs.items = search rules in
    lent_back c.begin.new.jobs.len c.begin.new.jobs.items c.run_jobs.new.jobs len
    (same_lengths number_in number_in c.run_jobs.new.jobs c.begin.new.jobs.items (numbers g c))

works : (g : Over) (c : After-end g) → map work_in (reverse c.run_jobs.new.jobs) ≡ c.end.new.works.items
works g c = ap (λ (jobs : List Job). map work_in (reverse jobs)) (sym (back g c)) ∙ c.end.ensures.works

have_run : (g : Over) (c : After-end g) (most : ℕ)
    → All (IsReadyToWork c.in-Ok.live (begun c.args.run.board (Some c.in-Ok.ensures.opened.all.opened)
    c.in_ok-works.works.items c.args.keeps most) c.args.phase.now) c.begin.new.jobs.items
    → HaveRun c.in-Ok.live (begun c.args.run.board (Some c.in-Ok.ensures.opened.all.opened) c.in_ok-works.works.items
    c.args.keeps most) c.len-2.result c.in-Ok.cpus.items c.end.new.cpus.items c.args.phase.now c.run_jobs.new.jobs
have_run g c most all = record {
  o = c.in-Ok.ensures.opened;
  part = refl;
  jobs = c.begin.new.jobs.items;
  are_cpus = c.begin.ensures.cpus;
  are_cpus1 = ap (λ (jobs : List Job). map cpu_in (reverse jobs)) (sym (back g c)) ∙ c.end.ensures.cpus;
  same = numbers g c;
  run = all_run c.in-Ok.live (begun c.args.run.board (Some c.in-Ok.ensures.opened.all.opened) c.in_ok-works.works.items
      c.args.keeps most) c.args.phase.now c.deref_mut.result.now c.run_jobs.new.jobs c.run_jobs.ensures.runs
      (rw c.deref_mut.ensures.value all);
}

pub overflow_cast-len : goal.overflow_cast-len
overflow_cast-len g c =
    let count = many g (goal.at.overflow_cast-len g c).After-len-2 in
    let small : c.len-2.result < 256 = omega (arith, count, c.requires.can.few) in
    search (rules, small)

pub open-requires : goal.open-requires
open-requires g c =
    let count = many g (goal.at.open-requires g c).After-len-2 in let can = c.requires.can in grind (arith, count, can)

pub begin-requires-clause-same : goal.begin-requires-clause-same
begin-requires-clause-same g c =
    let listed : c.in_ok-works.works.len ≡ length c.in_ok-works.works.items = search rules in
    let size = numbered_length number_by c.in-Ok.cpus.items c.len-2.result c.in-Ok.ensures.opened.numbers in
    omega (arith, listed, c.len-2.ensures, size)

pub begin-requires-clause-room : goal.begin-requires-clause-room
begin-requires-clause-room g c =
    let size = numbered_length number_by c.in-Ok.cpus.items c.len-2.result c.in-Ok.ensures.opened.numbers in
    omega (arith, size, c.len-2.ensures, c.len.ensures, c.in_ok-jobs.ensures.capacity)

pub run_jobs-requires-clause-some : goal.run_jobs-requires-clause-some
run_jobs-requires-clause-some g c κs within =
    let count = many g (goal.at.run_jobs-requires-clause-some g c).After-len-2 in
    let size = numbered_length number_by c.in-Ok.cpus.items c.len-2.result c.in-Ok.ensures.opened.numbers in
    let turned = length-reverse c.begin.new.jobs.items in
    let mapped = length-map (reverse c.begin.new.jobs.items) cpu_in in
    grind (arith, size, count, turned, mapped, c.begin.ensures.cpus, c.deref_mut.ensures.value, c.requires.can)

pub run_jobs-requires-clause-can : goal.run_jobs-requires-clause-can
run_jobs-requires-clause-can g c κs within =
    let can = c.requires.can in
    let all = all_ready g (goal.at.run_jobs-requires-clause-can g c).After-begin can.most can.asked can.room in
    rw c.deref_mut.ensures.value
    (λ k d less. (
      begun c.args.run.board (Some c.in-Ok.ensures.opened.all.opened) c.in_ok-works.works.items c.args.keeps
          can.most,
      all k d less,
    ))

pub close-board-requires : goal.close-board-requires
close-board-requires g c =
    let at = goal.at.close-board-requires g c in let can = c.requires.can in
    record {
      cpus = all_again (have_run g at.After-end can.most (all_ready g at.After-begin can.most can.asked can.room));
    }

pub returns-clause-goes_on : goal.returns-clause-goes_on
returns-clause-goes_on g c =
    let at = goal.at.returns-clause-goes_on g c in let end = at.After-end in let can = c.requires.can in
    let run = λ (most : ℕ) (asked : AreAsked most c.args.run.board.entries c.args.run.works.items)
    (room : most + length c.args.phase.now ≤ most_statements).
    have_run g end most (all_ready g at.After-begin most asked room) in
    let fine : All (λ (job : Job). job.refused ≡ false) c.run_jobs.new.jobs =
    rw (c.deref.ensures.value, back g end) at (c.is_refused-refused.ensures.none c.if-refused.false) in
    record {
      count = listed (run can.most can.asked can.room) c.end.new.works.items (works g end) ∙ many g at.After-len-2;
      asked = λ most asked room. are_asked (run most asked room) c.end.new.works.items (works g end)
          c.close-board.result fine c.close-board.ensures.cpus c.close-board.ensures.entries;
    }

pub returns-clause-run : goal.returns-clause-run
returns-clause-run g c = λ own told.
    let at = goal.at.returns-clause-run g c in let end = at.After-end in let can = c.requires.can in
    let run = have_run g end can.most (all_ready g at.After-begin can.most can.asked can.room) in
    let fine : All (λ (job : Job). job.refused ≡ false) c.run_jobs.new.jobs =
    rw (c.deref.ensures.value, back g end) at (c.is_refused-refused.ensures.none c.if-refused.false) in
    let count = many g at.After-len-2 in
    let pages : (actor : ℕ) → actor < c.len-2.result → page_by actor c.in_ok-works.works.items ≡ page_of (own actor) =
    λ actor less. ap (λ (ps : List Page). slice_index_or ps actor ([], 0)) c.in_ok-works.ensures.pages
    ∙ told actor (rw count at less) in
    has_run run c.end.new.works.items (works g end) c.close-board.result fine c.close-board.ensures.cpus own pages
    (omega (arith, count, can.some))
