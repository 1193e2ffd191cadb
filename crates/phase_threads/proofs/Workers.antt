-- What the workers of a phase leave, put together.
use Rattle.std.proofs.Common.{◌≡◌, ℕ, ◌<◌, List, [], ◌∷◌, ◌++◌, length, map, All, Option, refl, sym, ◌∙◌, ap, arith}
use Rattle.std.proofs.Common.{◌+◌, ◌≤◌, ◌==◌, Bool, false, Some, reverse, get_or, suc, inl, inr}
use Rattle.std.specs.List.{AllZip}
use Rattle.std.proofs.lemmas.List.Elements.{AllZip-get_or, length_all_zip, All-map}
use Rattle.std.proofs.lemmas.Simd.{map-map}
use Rattle.board_prelude.proofs.{Entry, Event, entries_by, Any, cases_lt, range_with_len, ne_eqb, length-map}
use Rattle.board_prelude.proofs.{length-reverse, MapChange, Setup, IsInRange, events_by, most_statements}
use Rattle.board_prelude.specs.{Statement}
use Rattle.bus_turn.specs.Passes.{part_of}
use Rattle.board_core.specs.Kept.{Standing}
use Rattle.board_live.specs.declared.shared.Origin.{Origin}
use Rattle.board_live.specs.Callers.{IsCallerOf, IsNew, AreAllOf, AreOpened, ClosesBoard, seen_of, known_of}
use Rattle.run_order.specs.declared.done.Done.{Done}
use Rattle.run_order.specs.declared.done.Done.TheVariants.{Went, Looked}
use Rattle.run_order.specs.PhaseRun.{IsWork}
use Rattle.run_order.specs.Trace.{Begins, IsDone}
use Rattle.run_order.specs.Written.{written}
use Rattle.run_order.proofs.Histories.{begins_trans, all_reverse, all_turned}
use Rattle.phase_threads.specs.declared.worker.Work.{Work}
use Rattle.phase_threads.specs.declared.jobs.Job.{Job}
use Rattle.phase_threads.specs.Shared.{TheCpu, TheLive}
use Rattle.phase_threads.specs.Jobs.{IsReadyToWork, IsRun, Runs, Start, AreAsked, AreDue, HasNoLook, HasRun, done_in}
use Rattle.phase_threads.specs.Jobs.{page_by, pages_in}
use Rattle.phase_threads.specs.Works.{HasDone, Page, page, page_of}
use Rattle.phase_threads.proofs.Numbers.{due_by_number, filter_none, map_reverse, all_mapped, same_lengths, number_at}
use Rattle.phase_threads.proofs.Numbers.{numbered_length, numbers_below, same_numbers, by_number, all_numbered}
use Rattle.phase_threads.proofs.Told.{Did, collect, lines_are, none_done, same_places}

-- ---- what the halves of a phase's workers do

zip_append : {X : Type 0} (R : X → X → Type 0) (xs ys us vs : List X) → AllZip R xs us → AllZip R ys vs
    → AllZip R (xs ++ ys) (us ++ vs)
zip_append R [] ys us vs front back = grind arith
zip_append R (x ∷ xs) ys us vs front back = grind (arith, zip_append R xs ys)

-- both halves of a list
pub zip_both : {X : Type 0} (R : X → X → Type 0) (xs ys us vs all : List X) → all ≡ xs ++ ys → AllZip R xs us
    → AllZip R ys vs → AllZip R all (us ++ vs)
zip_both R xs ys us vs all whole front back = rw whole (zip_append R xs ys us vs front back)

no_events : (events : List Event) → length events ≡ 0 → events ≡ []
no_events [] none = refl
no_events (event ∷ events) none = absurd (omega (arith, none))

-- a worker that has no statement ends as it began
idle_runs : (live : TheLive) (phase : List Statement) (job : Job) → job.work.due ≡ 0 → Runs live phase job job
idle_runs live phase job idle = record {
  number = refl;
  run = λ start ready.
      let none : events_by job.cpu.number phase ≡ [] = no_events (events_by job.cpu.number phase)
      (sym ready.due ∙ idle) in
      let board = start.board in let actor = job.cpu.number in let new = ready.new in
      record {
        own = ready.own;
        same = ready.same;
        setup = new.setup;
        asked = λ fine. omega (arith, ready.asked);
        mine = λ fine.
            omega (arith, ready.mine, ap (λ (h : List Entry). length (entries_by actor h)) new.seen);
        done = λ fine own is.
            rw (none, new.seen, new.known) (none_done board.setup actor board.entries own start.keeps job.work
            ready.empty (ready.lines ∙ is));
      };
}

pub all_idle : (live : TheLive) (phase : List Statement) (jobs : List Job) → All (λ job. job.work.due ≡ 0) jobs
    → AllZip (Runs live phase) jobs jobs
all_idle live phase [] idle = tt
all_idle live phase (job ∷ jobs) idle = (
  idle_runs live phase job (idle 0 job (omega arith)),
  all_idle live phase jobs (λ k d less. idle (suc k) d (omega (arith, less))),
)

-- ---- what follows of it

pub numbers_stay : (live : TheLive) (phase : List Statement) (jobs now : List Job) → AllZip (Runs live phase) jobs now
    → map (λ (job : Job). job.cpu.number) now ≡ map (λ (job : Job). job.cpu.number) jobs
numbers_stay live phase [] now ran = grind arith
numbers_stay live phase (job ∷ jobs) now ran = grind (arith, numbers_stay live phase jobs)

pub all_run : (live : TheLive) (start : Start) (phase : List Statement) (jobs now : List Job)
    → AllZip (Runs live phase) jobs now
    → All (IsReadyToWork live start phase) jobs → All (IsRun live start phase) now
all_run live start phase jobs now ran ready k d less =
    let few : k < length jobs = omega (arith, less, length_all_zip (Runs live phase) jobs now ran) in
    (AllZip-get_or (Runs live phase) jobs now k d d ran few).run start (ready k d few)

-- ---- what the workers of a phase leave, put together

abbrev pub cpu_in : Job → TheCpu
cpu_in job = job.cpu

abbrev pub work_in : Job → Work
work_in job = job.work

abbrev pub number_in : Job → ℕ
number_in job = job.cpu.number

abbrev pub number_by : TheCpu → ℕ
number_by cpu = cpu.number

from_jobs : {X : Type 0} (f : Job → X) (P : X → Type 0) (jobs : List Job) (xs : List X) → map f (reverse jobs) ≡ xs
    → All P xs → All (λ job. P (f job)) jobs
from_jobs f P jobs xs e all = all_turned (λ job. P (f job)) jobs (all_mapped f P (reverse jobs) (rw e all))

to_jobs : {X : Type 0} (f : Job → X) (P : X → Type 0) (jobs : List Job) (xs : List X) → map f (reverse jobs) ≡ xs
    → All (λ job. P (f job)) jobs → All P xs
to_jobs f P jobs xs e all = rw e at (All-map P f (reverse jobs) (all_reverse (λ job. P (f job)) jobs all))

job_numbers : (cpus1 : List TheCpu) (jobs1 : List Job) (n : ℕ) → map cpu_in (reverse jobs1) ≡ cpus1 →
    map number_by cpus1 ≡ range_with_len 0 n → map number_in (reverse jobs1) ≡ range_with_len 0 n
job_numbers cpus1 jobs1 n are_cpus1 numbers = grind (arith, are_cpus1, numbers, map-map)

pub begins_opened : (setup : Setup) (actor : ℕ) (opened : List Entry) (done : List Done) (seen : List Entry)
    (known : List MapChange) → IsDone setup actor opened done seen known → Begins opened seen
begins_opened setup actor opened [] seen known d = ([], d.0)
begins_opened setup actor opened (Looked kind addr smm look ∷ before) seen known d =
    begins_opened setup actor opened before seen d.0 d.2
begins_opened setup actor opened (Went version event ∷ before) seen known d =
    begins_trans opened d.0 seen (begins_opened setup actor opened before d.0 d.1 d.5)
    (begins_trans d.0 d.2.list seen d.2.begins (d.2.entry ∷ [], d.2.now_is))

-- a worker's part of a phase
work_of : {live : TheLive} {start : Start} {phase : List Statement} {job : Job} {own : List Entry} (now : Standing)
    → IsRun live start phase job → ClosesBoard now job.cpu
    → (h : HasDone start.board.setup job.cpu.number start.board.entries (events_by job.cpu.number phase) own start.keeps
    job.work (seen_of job.cpu) (known_of job.cpu))
    → IsWork start.board.setup start.board.entries now.entries phase job.cpu.number h.done
work_of {job = job} now run closes h =
    let setup = sym closes.setup ∙ run.setup in
    record {
      seen = seen_of job.cpu;
      known = known_of job.cpu;
      trace = h.trace;
      closed = record { begins = closes.begins; meets = rw setup at closes.meets; mine = closes.mine };
      said = h.said;
    }

some_of : {X : Type 0} (xs : List X) → 0 < length xs → X
some_of [] some = absurd (omega (arith, some))
some_of (x ∷ xs) some = x

-- what the workers of a phase begin with
abbrev pub begun : Standing → Option Origin → List Work → Bool → ℕ → Start
begun board part works keeps most =
    record { board = board; part = part; pages = λ actor. page_by actor works; keeps = keeps; most = most }

-- a job's work is that of its processor
pages_are : (jobs : List Job) (works : List Work) (n : ℕ) → map work_in (reverse jobs) ≡ works
    → map number_in (reverse jobs) ≡ range_with_len 0 n → All (λ job. page job.work ≡ page_by job.cpu.number works) jobs
pages_are jobs works n are_works named =
    let told : Job → Page = λ job. page job.work in
    let same : map told (reverse jobs) ≡ pages_in works =
    sym (map-map page work_in (reverse jobs)) ∙ ap (map page) are_works in
    all_turned (λ job. page job.work ≡ page_by job.cpu.number works) jobs
    (λ k d less. sym (rw same at (by_number number_in told ([], 0) (reverse jobs) n named k d less)))

-- the jobs of the callers of a board that was just opened
module _ {live : TheLive} {board : Standing} {n : ℕ} {cpus : List TheCpu} {phase : List Statement}
    (jobs : List Job) (o : AreOpened board n live cpus) (are_cpus : map cpu_in (reverse jobs) ≡ cpus) where
  pub ready : (works : List Work) (keeps : Bool) (most : ℕ) → map work_in (reverse jobs) ≡ works
      → All (λ work. work.done.items ≡ []) works → All (λ work. work.keeps ≡ keeps) works → AreDue phase works
      → All (λ work. work.asked ≤ most) works → All (λ statement. IsInRange board.setup statement.event) phase
      → (keeps ≡ false → HasNoLook phase) → ((actor : ℕ) → length (entries_by actor board.entries) ≤ most)
      → most + length phase ≤ most_statements
      → All (IsReadyToWork live (begun board (Some o.all.opened) works keeps most) phase) jobs
  ready works keeps most are_works empty kept due asked in_range plain mine room k d less =
      let named = job_numbers cpus jobs n are_cpus o.numbers in
      let long = numbered_length number_in (reverse jobs) n named in
      let size : length works ≡ n = sym (ap length are_works) ∙ (length-map (reverse jobs) work_in ∙ long) in
      let part = λ (cpu : TheCpu). part_of cpu.pass ≡ Some o.all.opened in
      record {
        own = from_jobs cpu_in (IsCallerOf live) jobs cpus are_cpus o.all.own k d less;
        same = from_jobs cpu_in part jobs cpus are_cpus o.all.same k d less;
        new = from_jobs cpu_in (IsNew board) jobs cpus are_cpus o.new k d less;
        in_range = in_range;
        plain = plain;
        empty = from_jobs work_in (λ work. work.done.items ≡ []) jobs works are_works empty k d less;
        due = due_by_number jobs works phase n are_works named size due k d less;
        lines = pages_are jobs works n are_works named k d less;
        keeps = from_jobs work_in (λ work. work.keeps ≡ keeps) jobs works are_works kept k d less;
        mine = mine (get_or jobs k d).cpu.number;
        asked = from_jobs work_in (λ work. work.asked ≤ most) jobs works are_works asked k d less;
        room = room;
      }

-- the jobs of the callers of a board that was opened for a phase, when the workers have ended
pub record HaveRun (live : TheLive) (start : Start) (n : ℕ) (cpus cpus1 : List TheCpu) (phase : List Statement)
    (jobs1 : List Job) : Type 0 where
  pub o : AreOpened start.board n live cpus
  pub part : start.part ≡ Some o.all.opened
  pub jobs : List Job
  pub are_cpus : map cpu_in (reverse jobs) ≡ cpus
  pub are_cpus1 : map cpu_in (reverse jobs1) ≡ cpus1
  pub same : map number_in jobs1 ≡ map number_in jobs
  pub run : All (IsRun live start phase) jobs1

module _ {live : TheLive} {start : Start} {n : ℕ} {cpus cpus1 : List TheCpu} {phase : List Statement}
    {jobs1 : List Job} (h : HaveRun live start n cpus cpus1 phase jobs1) where
  again : map number_by cpus1 ≡ map number_by cpus
  again = grind (arith, h.are_cpus, h.are_cpus1, h.same, map-map, map_reverse)

  named : map number_in (reverse jobs1) ≡ range_with_len 0 n
  named = job_numbers cpus1 jobs1 n h.are_cpus1 (again ∙ h.o.numbers)

  size_again : length (reverse jobs1) ≡ n
  size_again = numbered_length number_in (reverse jobs1) n named

  named_all : map number_in (reverse jobs1) ≡ range_with_len 0 (length (reverse jobs1))
  named_all = named ∙ ap (range_with_len 0) (sym size_again)

  pub all_again : AreAllOf live cpus1
  all_again =
      let size : length cpus1 ≡ length cpus = same_lengths number_by number_by cpus1 cpus again in
      record {
        opened = h.o.all.opened;
        own = to_jobs cpu_in (IsCallerOf live) jobs1 cpus1 h.are_cpus1 (λ k d less. (h.run k d less).own);
        same = to_jobs cpu_in (λ cpu. part_of cpu.pass ≡ Some h.o.all.opened) jobs1 cpus1 h.are_cpus1
            (λ k d less. (h.run k d less).same ∙ h.part);
        count = size ∙ h.o.all.count;
        some = omega (arith, size, h.o.all.some);
        each = λ number less. same_numbers number_by cpus cpus1 number again (h.o.all.each number (rw size at less));
      }

  -- each job's processor is one of them
  below : All (λ job. job.cpu.number < n) jobs1
  below = all_turned (λ (job : Job). job.cpu.number < n) jobs1
      (λ k d less. rw (number_at number_in (reverse jobs1) n named k d less) (rw size_again at less))

  module _ (works1 : List Work) (are_works1 : map work_in (reverse jobs1) ≡ works1) where
    pub listed : length works1 ≡ n
    listed = sym (ap length are_works1) ∙ (length-map (reverse jobs1) work_in ∙ size_again)

    module _ (now : Standing) (fine : All (λ job. job.refused ≡ false) jobs1) (closes : All (ClosesBoard now) cpus1)
      where
        closed : All (λ job. ClosesBoard now job.cpu) jobs1
        closed = from_jobs cpu_in (ClosesBoard now) jobs1 cpus1 h.are_cpus1 closes

        -- what is asked of what a processor did
        abbrev Fits : (ℕ → List Entry) → ℕ → List Done → Type 0
        Fits own actor done =
            IsWork start.board.setup start.board.entries now.entries phase actor done
            × ((later : List Entry) → reverse later ++ start.board.entries ≡ now.entries →
            page_by actor works1 ≡ page_of (written actor done (entries_by actor later) (own actor)))

        all_did : (own : ℕ → List Entry)
            → ((actor : ℕ) → actor < n → start.pages actor ≡ page_of (own actor))
            → All (λ job. Did (Fits own) start.keeps job.cpu.number job.work) jobs1
        all_did own told k d less =
            let job : Job = get_or jobs1 k d in let run = h.run k d less in let close = closed k d less in
            let has = run.done (fine k d less) (own job.cpu.number) (told job.cpu.number (below k d less)) in
            let page_is = pages_are jobs1 works1 n are_works1 named k d less in
            record {
              done = has.done;
              is = (
                work_of now run close has,
                λ later whole. sym page_is ∙ lines_are now.entries later has whole close.mine,
              );
              kept = has.kept;
            }

        begins_here : (own : ℕ → List Entry)
            → ((actor : ℕ) → actor < n → start.pages actor ≡ page_of (own actor)) → (d : Job) → 0 < length jobs1
            → (now.setup ≡ start.board.setup) × Begins start.board.entries now.entries
        begins_here own told d some =
            let job : Job = get_or jobs1 0 d in let run = h.run 0 d some in let close = closed 0 d some in
            let has = run.done (fine 0 d some) (own job.cpu.number) (told job.cpu.number (below 0 d some)) in (
              sym close.setup ∙ run.setup,
              begins_trans start.board.entries (seen_of job.cpu) now.entries (begins_opened _ _ _ _ _ _ has.trace)
                  close.begins,
            )

        pub has_run : (own : ℕ → List Entry)
            → ((actor : ℕ) → actor < n → start.pages actor ≡ page_of (own actor)) → 1 ≤ n
            → HasRun own start.board now phase works1
        has_run own told some =
            let many : 0 < length jobs1 = omega (arith, size_again, length-reverse jobs1, some) in
            let whole = begins_here own told (some_of jobs1 many) many in
            let did = all_reverse (λ (job : Job). Did (Fits own) start.keeps job.cpu.number job.work) jobs1
            (all_did own told) in
            let all = collect (Fits own) start.keeps number_in work_in 0 (reverse jobs1) did named_all in
            let dones : Work → List Done = λ work. work.done.items in
            let kept_is : map (λ (job : Job). job.work.done.items) (reverse jobs1) ≡ done_in works1 =
            sym (map-map dones work_in (reverse jobs1)) ∙ ap (map dones) are_works1 in
            let each = λ (actor : ℕ) (less : actor < length works1).
            all.each actor (omega arith) (omega (arith, less, size_again, listed)) in
            record {
              setup = whole.0;
              begins = whole.1;
              lists = all.lists;
              count = all.count ∙ (size_again ∙ sym listed);
              each = λ actor less. (each actor less).0;
              same = same_places start.keeps (done_in works1) all.lists (rw kept_is at all.kept);
              lines = λ later is actor less. (each actor less).1 later is;
            }

        pub are_asked : All (λ entry. Any (λ cpu. cpu.number ≡ entry.actor) cpus1) now.entries
            → AreAsked (start.most + length phase) now.entries works1
        are_asked callers =
            let actors : All (λ entry. entry.actor < n) now.entries = λ k d less. numbers_below number_by cpus1 n _
            (again ∙ h.o.numbers) (callers k d less) in
            let own = all_reverse (λ (job : Job). length (entries_by job.cpu.number now.entries) ≤ start.most
            + length phase) jobs1 (λ k d less. rw (closed k d less).mine ((h.run k d less).mine (fine k d less))) in
            let mine = λ (actor : ℕ) (few : actor < n).
            all_numbered number_in (λ a. length (entries_by a now.entries) ≤ start.most + length phase)
            (reverse jobs1) 0
            own named_all actor (omega arith) (omega (arith, few, size_again)) in
            let asked = to_jobs work_in (λ work. work.asked ≤ start.most + length phase) jobs1 works1 are_works1
            (λ k d less. (h.run k d less).asked (fine k d less)) in
            let none = λ (actor : ℕ) (past : n ≤ actor). filter_none (λ (e : Entry). e.actor == actor) now.entries
            (λ k d less. ne_eqb (get_or now.entries k d).actor actor (λ e. omega (arith, past, actors k d less, e))) in
            record {
              actors = rw listed actors;
              mine = λ actor. elim (cases_lt actor n) [
                | inl few ↦ mine actor few
                | inr past ↦ rw (none actor past) (omega arith)
              ];
              asked = asked;
            }
