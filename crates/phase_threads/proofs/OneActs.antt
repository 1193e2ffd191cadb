-- A phase in which one processor acts.
use Rattle.std.proofs.Common.{set, ◌≡◌, ◌≢◌, ℕ, ◌+◌, ◌<◌, ◌≤◌, ◌==◌, not, List, [], ◌∷◌, length, All, get_or}
use Rattle.std.proofs.Common.{slice_index_or, refl, sym, ◌∙◌, ap, arith, map, false, ◌++◌, reverse, Bool, filter, true}
use Rattle.std.proofs.Common.{inl, inr, subst}
use Rattle.std.proofs.lemmas.Bool.{cases_eq}
use Rattle.board_prelude.proofs.{nat_tests, length-map, get_or-map, Entry, Setup, entries_by, events_by, map_writes_of}
use Rattle.board_prelude.proofs.{ne_eqb, get_or-set_at, get_or-set_other, length-set, All-permutation}
use Rattle.board_prelude.proofs.{IsPermutation-sym, Event, Reply, next_entry}
use Rattle.board_prelude.specs.{Statement}
use Rattle.std.proofs.lemmas.List.{map-set}
use Rattle.std.proofs.lemmas.List.Elements.{All-filter, All-map, All-append, All-set, All-weaker, filter_passes}
use Rattle.std.proofs.lemmas.List.Sorted.{IsPermutation-filter_both}
use Rattle.std.proofs.lemmas.List.Filters.{length-filter_both}
use Rattle.board_core.specs.Kept.{Standing}
use Rattle.board_live.proofs.Histories.{writes_extend}
use Rattle.board_live.proofs.Limits.{few_entries}
use Rattle.run_order.specs.declared.done.Done.{Done}
use Rattle.run_order.proofs.Counts.{from_first, nobody_looked}
use Rattle.run_order.specs.PhaseRun.{IsWork}
use Rattle.run_order.specs.Trace.{Begins}
use Rattle.run_order.specs.Room.{all_looks_in}
use Rattle.run_order.specs.Placing.{done_by}
use Rattle.run_order.specs.Written.{written}
use Rattle.phase_threads.specs.declared.worker.Work.{Work}
use Rattle.phase_threads.specs.declared.run.Run.{Run}
use Rattle.phase_threads.specs.Works.{HasDone, Page, page, page_of}
use Rattle.phase_threads.specs.Others.{others}
use Rattle.phase_threads.specs.Replies.{HasGone}
use Rattle.phase_threads.specs.Acts.{HasActed, CanAct}
use Rattle.phase_threads.specs.Jobs.{AreTold, CanDoPhase, GrowsBy, HasNoLook, HasRun, done_in, page_by, pages_in}
use Rattle.phase_threads.proofs.Numbers.{filter_none, asked_again, pages_length}
use Rattle.phase_threads.proofs.Told.{AreKept, lines_are, nothing_written, same_places, set_kept}
use Rattle.phase_threads.proofs.Workers.{begins_opened}

-- ---- entries

-- each entry is the processor's or another's
pub both : (number : ℕ) (entries : List Entry)
    → length (entries_by number entries) + length (others number entries) ≡ length entries
both number entries =
    length-filter_both (λ (entry : Entry). entry.actor == number) (λ (entry : Entry). not (entry.actor == number)) (λ
    entry. refl) entries

-- another's entries are all among the others'
pub by_other : (number actor : ℕ) → actor ≢ number → (entries : List Entry)
    → entries_by actor entries ≡ entries_by actor (others number entries)
by_other number actor unlike [] = refl
by_other number actor unlike (entry ∷ before) = grind (arith, nat_tests, unlike, by_other number actor unlike before)

all_below : (number n : ℕ) → number < n → (entries : List Entry) → All (λ entry. entry.actor < n)
    (others number entries) → All (λ entry. entry.actor < n) entries
all_below number n less entries all =
    let own : Entry → Bool = λ entry. entry.actor == number in let Below : Entry → Type 0 = λ entry. entry.actor < n in
    let mine = All-weaker (λ entry. own entry ≡ true) Below (λ entry is. grind (arith, nat_tests, is))
    (filter own entries) (filter_passes own entries) in
    All-permutation Below (filter own entries ++ others number entries) entries
    (IsPermutation-sym entries _ (IsPermutation-filter_both own (λ entry. not (own entry)) (λ entry. refl) entries))
    (All-append Below (filter own entries) (others number entries) mine all)

-- ---- statements

-- nobody else has a statement
no_events : (number actor : ℕ) → actor ≢ number → (phase : List Statement)
    → All (λ statement. statement.actor ≡ number) phase → [] ≡ events_by actor phase
no_events number actor unlike phase all =
    ap (map (λ (s : Statement). s.event)) (sym (filter_none (λ (s : Statement). s.actor == actor) phase
    (λ k d less. ne_eqb (get_or phase k d).actor actor (λ e. unlike (sym e ∙ all k d less)))))

-- ---- one statement

-- an entry of its own comes directly after what it has seen
pub gone_alone : (setup : Setup) (number : ℕ) (before now : List Entry) (event : Event) (reply : Reply)
    → now ≡ next_entry before number event reply ∷ before
    → HasGone setup number before (map_writes_of setup before) event reply now (map_writes_of setup now)
gone_alone setup number before now event reply is = record {
  gone = record {
    list = before;
    entry = next_entry before number event reply;
    begins = ([], refl);
    mine = refl;
    meets = ([], refl);
    own = refl;
    said = refl;
    now_is = is;
    known_is = refl;
  };
  reply_is = refl;
}

-- ---- the phase

-- another processor has the entries that it had
pub theirs : (number actor : ℕ) (before now : List Entry) → actor ≢ number → others number now ≡ others number before
    → entries_by actor now ≡ entries_by actor before
theirs number actor before now unlike same = grind (arith, by_other number actor unlike, same)

-- what each processor did of a phase, where one acted and the others had nothing to do
module _ {number : ℕ} {before now : Standing} {keeps : Bool} {phase : List Statement} {old new : List Work}
    (own : ℕ → List Entry) (can : CanAct number before old keeps phase)
    (only : All (λ statement. statement.actor ≡ number) phase) (acted : HasActed number before now keeps phase old new)
    (told : AreTold own old) where
  has : HasDone before.setup number before.entries (events_by number phase) (own number) keeps acted.work now.entries
      (map_writes_of now.setup now.entries)
  has = acted.done (own number) (told number can.within)

  begins : Begins before.entries now.entries
  begins = begins_opened before.setup number before.entries (reverse has.done) now.entries
      (map_writes_of now.setup now.entries) has.trace

  lists : List (List Done)
  lists = set (done_in old) number has.done

  within : number < length (done_in old)
  within = rw (length-map old (λ (work : Work). work.done.items)) can.within

  size : length new ≡ length old
  size = ap length acted.is ∙ length-set old number acted.work

  own_work : IsWork before.setup before.entries now.entries phase number has.done
  own_work = record {
    seen = now.entries;
    known = map_writes_of now.setup now.entries;
    trace = has.trace;
    closed = record {
      begins = ([], refl);
      meets = ([], ap (λ (setup : Setup). map_writes_of setup now.entries) (sym acted.setup));
      mine = refl;
    };
    said = has.said;
  }

  other_work : (actor : ℕ) → actor ≢ number → IsWork before.setup before.entries now.entries phase actor []
  other_work actor unlike = record {
    seen = before.entries;
    known = map_writes_of before.setup before.entries;
    trace = (refl, refl);
    closed = record {
      begins = begins;
      meets = writes_extend before.setup before.entries now.entries begins;
      mine = theirs number actor before.entries now.entries unlike acted.others;
    };
    said = no_events number actor unlike phase only;
  }

  own_list : done_by 0 number lists ≡ has.done
  unfolding lists
  own_list = (from_first lists number).0 ∙ get_or-set_at (done_in old) number number has.done [] refl within

  other_list : (actor : ℕ) → actor ≢ number → actor < length old → done_by 0 actor lists ≡ []
  unfolding lists
  other_list actor unlike less =
      (from_first lists actor).0 ∙ (get_or-set_other (done_in old) number actor has.done [] unlike
      ∙ All-map (λ (items : List Done). items ≡ []) (λ (work : Work). work.done.items) old can.empty actor []
      (rw (length-map old (λ (work : Work). work.done.items)) less))

  pages : pages_in new ≡ set (pages_in old) number (page acted.work)
  pages = ap (map page) acted.is ∙ map-set page old number acted.work

  wrote : (later : List Entry) → reverse later ++ before.entries ≡ now.entries → (actor : ℕ) → actor < length old
      → page_by actor new ≡ page_of (written actor (done_by 0 actor lists) (entries_by actor later) (own actor))
  wrote later whole actor less = elim (cases_eq actor number) [
    | inl same ↦
        let few : number < length (pages_in old) = rw (length-map old page) can.within in
        let here : page_by number new ≡ page acted.work =
        ap (λ (ps : List Page). slice_index_or ps number ([], 0)) pages
        ∙ get_or-set_at (pages_in old) number number (page acted.work) ([], 0) refl few in
        let lines = lines_are now.entries later has whole refl in
        let mine : page_by number new ≡ page_of (written number (done_by 0 number lists) (entries_by number later)
        (own number)) = here ∙ (lines ∙ ap (λ (done : List Done). page_of (written number done (entries_by number later)
        (own number))) (sym own_list)) in
        subst (λ (a : ℕ). page_by a new ≡ page_of (written a (done_by 0 a lists) (entries_by a later) (own a)))
        (sym same) mine
    | inr unlike ↦
        ap (λ (ps : List Page). slice_index_or ps actor ([], 0)) pages
        ∙ (get_or-set_other (pages_in old) number actor (page acted.work) ([], 0) unlike
        ∙ (told actor less ∙ ap page_of (sym (nothing_written actor (entries_by actor later) (own actor))
        ∙ ap (λ (done : List Done). written actor done (entries_by actor later) (own actor))
        (sym (other_list actor unlike less)))))
  ]

  each : (actor : ℕ) → actor < length old
      → IsWork before.setup before.entries now.entries phase actor (done_by 0 actor lists)
  each actor less = elim (cases_eq actor number) [
    | inl same ↦
        subst (λ (a : ℕ). IsWork before.setup before.entries now.entries phase a (done_by 0 a lists)) (sym same)
        (subst (λ (done : List Done). IsWork before.setup before.entries now.entries phase number done) (sym own_list)
        own_work)
    | inr unlike ↦
        subst (λ (done : List Done). IsWork before.setup before.entries now.entries phase actor done)
        (sym (other_list actor unlike less)) (other_work actor unlike)
  ]

  kept : AreKept keeps (done_in new) lists
  unfolding lists
  kept =
      let did : Work → List Done = λ work. work.done.items in
      let none : all_looks_in (done_in old) ≡ 0 = nobody_looked did old (λ k d less. rw (can.empty k d less) refl) in
      let same : done_in new ≡ set (done_in old) number acted.work.done.items =
      ap (map did) acted.is ∙ map-set did old number acted.work in
      rw same (set_kept keeps (done_in old) number acted.work.done.items has.done within none has.kept)

  lists_size : length lists ≡ length new
  unfolding lists
  lists_size = length-set (done_in old) number has.done
      ∙ (length-map old (λ (work : Work). work.done.items) ∙ sym size)

  pub alone_has_run : HasRun own before now phase new
  alone_has_run = record {
    setup = acted.setup;
    begins = begins;
    lists = lists;
    count = lists_size;
    each = λ actor less. each actor (rw size at less);
    same = same_places keeps (done_in new) lists kept;
    lines = λ later whole actor less. wrote later whole actor (rw size at less);
  }

-- the works of a phase are those that the run had, and nothing of it is done
module _ {number : ℕ} {run : Run} {keeps : Bool} {phase : List Statement} {old : List Work}
    (again : pages_in old ≡ pages_in run.works.items) (below : number < length run.works.items) where
  pub can_act : CanDoPhase run phase → All (λ work. work.done.items ≡ []) old → All (λ work. work.keeps ≡ keeps) old
      → (keeps ≡ false → HasNoLook phase) → CanAct number run.board old keeps phase
  can_act can empty kept plain =
      let all : length run.board.entries ≤ 2_000_000 =
      few_entries (length run.works.items) run.board.entries (record {
        some = can.some;
        most = can.few;
        actors = can.asked.actors;
        each = λ actor. omega (arith, can.asked.mine actor, can.room);
      }) in
      let few = asked_again can.most run.works.items old again can.asked.asked in
      record {
        in_range = λ k d less. (can.in_range k d less).event;
        plain = plain;
        within = omega (arith, pages_length run.works.items old again, below);
        empty = empty;
        kept = kept;
        few = omega (arith, all, both number run.board.entries);
        room = omega (arith, can.asked.mine number, can.room);
        asked = λ k d less. omega (arith, few k d less, can.room);
      }

  pub grows : (now : Run) → HasActed number run.board now.board keeps phase old now.works.items → GrowsBy phase run now
  grows now acted =
      let set_size = length-set old number acted.work in
      let size : length run.works.items ≡ length now.works.items =
      omega (arith, pages_length run.works.items old again, ap length acted.is, set_size) in
      let n : ℕ = length now.works.items in
      record {
        count = sym size;
        asked = λ most asked room. record {
          actors = all_below number n (omega (arith, below, size)) now.board.entries
              (rw acted.others (All-filter (λ (e : Entry). not (e.actor == number)) (λ (e : Entry). e.actor < n)
              run.board.entries (rw size at asked.actors)));
          mine = λ actor.
              let same = theirs number actor run.board.entries now.board.entries in
              grind (arith, nat_tests, acted.mine, acted.others, asked.mine number, asked.mine actor, same);
          asked =
              let few = asked_again most run.works.items old again asked.asked in
              let most_now : Work → Type 0 = λ work. work.asked ≤ most + length phase in
              rw acted.is (All-set most_now old number acted.work (acted.asked most few)
              (λ k d less. omega (arith, few k d less)));
        };
      }

-- one work is replaced
pub has_acted : {number : ℕ} {before now : Standing} {keeps : Bool} {phase : List Statement} (old : List Work)
    (was work : Work) → CanAct number before old keeps phase → was ≡ slice_index_or old number was →
    now.setup ≡ before.setup → others number now.entries ≡ others number before.entries →
    length (entries_by number now.entries) ≤ length (entries_by number before.entries) + length phase →
    work.asked ≤ was.asked + length phase →
    ((own : List Entry) → page was ≡ page_of own →
    HasDone before.setup number before.entries (events_by number phase) own was.keeps work now.entries
    (map_writes_of now.setup now.entries)) → HasActed number before now keeps phase old (set old number work)
has_acted {number} {keeps = keeps} old was work can is setup others mine asked done =
    let kept : was.keeps ≡ keeps = ap (λ (w : Work). w.keeps) is ∙ can.kept number was can.within in
    let same : page was ≡ page_by number old =
    ap page is ∙ sym (get_or-map page old number was ([], 0) can.within) in
    record {
      setup = setup;
      others = others;
      mine = mine;
      work = work;
      is = refl;
      asked = λ most all. omega (arith, asked, all number was can.within, ap (λ (w : Work). w.asked) is);
      done = λ own told. rw kept at (done own (same ∙ told));
    }
