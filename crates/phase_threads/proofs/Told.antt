-- What the workers of a phase did, and the lines that they wrote, put together by processor.
use Rattle.std.proofs.Common.{◌≡◌, ℕ, ◌+◌, ◌<◌, ◌≤◌, ◌==◌, List, [], ◌∷◌, ◌++◌, Bool, true, false, length, map, reverse}
use Rattle.std.proofs.Common.{set, All, refl, sym, ◌∙◌, ap, arith, suc}
use Rattle.std.proofs.lemmas.List.{append_cancel_right}
use Rattle.board_prelude.proofs.{nat_tests, append-nil, reverse-append, reverse-reverse, filter-append, range_with_len}
use Rattle.board_prelude.proofs.{Entry, Event, MapChange, Setup, entries_by, map_writes_of}
use Rattle.run_order.specs.declared.done.Done.{Done}
use Rattle.run_order.specs.Room.{all_looks_in, looks_in}
use Rattle.run_order.specs.Placing.{done_by, placed}
use Rattle.run_order.specs.Written.{written}
use Rattle.run_order.proofs.Counts.{count_set}
use Rattle.run_order.proofs.Written.{none_written}
use Rattle.run_order.proofs.Settled.{placed_alone}
use Rattle.phase_threads.specs.declared.worker.Work.{Work}
use Rattle.phase_threads.specs.Works.{HasDone, IsKept, page, page_of}

-- ---- the lines of one processor

pub entries_reversed : (actor : ℕ) (entries : List Entry)
    → entries_by actor (reverse entries) ≡ reverse (entries_by actor entries)
entries_reversed actor [] = refl
entries_reversed actor (entry ∷ later) =
    let test : Entry → Bool = λ e. e.actor == actor in let turned = reverse-append (entry ∷ []) in
    let split = filter-append test (reverse later) (entry ∷ []) in
    grind (
      arith,
      nat_tests,
      turned later,
      split,
      turned (entries_by actor later),
      append-nil,
      entries_reversed actor later,
    )

-- a processor's calls are its entries among those that the bus's history gained
calls_are : (actor : ℕ) (opened later now calls : List Entry) → reverse later ++ opened ≡ now
    → entries_by actor now ≡ reverse calls ++ entries_by actor opened → calls ≡ entries_by actor later
calls_are actor opened later now calls whole called =
    let split = filter-append (λ (e : Entry). e.actor == actor) (reverse later) opened in
    let all : reverse calls ++ entries_by actor opened ≡ reverse (entries_by actor later) ++ entries_by actor opened =
    sym called ∙ (ap (entries_by actor) (sym whole) ∙ (split
    ∙ ap (λ (h : List Entry). h ++ entries_by actor opened) (entries_reversed actor later))) in
    let same = append_cancel_right (reverse calls) (reverse (entries_by actor later)) (entries_by actor opened) all in
    sym (reverse-reverse calls) ∙ (ap reverse same ∙ reverse-reverse (entries_by actor later))

-- so its lines are those of its entries in the history of the run
pub lines_are : {setup : Setup} {actor : ℕ} {opened : List Entry} {events : List Event} {own : List Entry}
    {keeps : Bool} {work : Work} {seen : List Entry} {known : List MapChange} (now later : List Entry)
    (h : HasDone setup actor opened events own keeps work seen known) → reverse later ++ opened ≡ now
    → entries_by actor now ≡ entries_by actor seen
    → page work ≡ page_of (written actor h.done (entries_by actor later) own)
lines_are {actor = actor} {opened = opened} {own = own} {work = work} now later h whole mine =
    let calls = calls_are actor opened later now h.calls whole (mine ∙ h.called) in
    let all = h.adds [] [] in let end = none_written actor h.told in
    h.lines ∙ ap page_of (sym end ∙ (sym all
    ∙ (ap (λ (done : List Done). written actor done (h.calls ++ []) own) (append-nil h.done)
    ∙ ap (λ (c : List Entry). written actor h.done c own) (append-nil h.calls ∙ calls))))

-- where it did nothing, it has no more
pub nothing_written : (actor : ℕ) (calls own : List Entry) → written actor [] calls own ≡ own
unfolding written
nothing_written actor calls own = refl

-- a processor that has no statement in the phase
pub none_done : (setup : Setup) (actor : ℕ) (opened own : List Entry) (keeps : Bool) (work : Work)
    → work.done.items ≡ [] → page work ≡ page_of own
    → HasDone setup actor opened [] own keeps work opened (map_writes_of setup opened)
none_done setup actor opened own keeps work none is = record {
  done = [];
  trace = (refl, refl);
  said = refl;
  calls = [];
  called = refl;
  told = own;
  adds = λ more later. refl;
  lines = is;
  kept = none_kept keeps;
}
  where
    none_kept : (k : Bool) → IsKept k work.done.items []
    none_kept true = none
    none_kept false = (ap looks_in none, refl)

-- ---- what all did

-- where looks are to be placed, what was done is kept; else nobody looked
abbrev pub AreKept : Bool → (kept lists : List (List Done)) → Type 0
AreKept true kept lists = kept ≡ lists
AreKept false kept lists = (all_looks_in kept ≡ 0) × (all_looks_in lists ≡ 0)

pub same_places : (keeps : Bool) (kept lists : List (List Done)) → AreKept keeps kept lists → (version : ℕ)
    (later history : List Entry) → placed version later kept history ≡ placed version later lists history
same_places true kept lists same version later history =
    ap (λ (rests : List (List Done)). placed version later rests history) same
same_places false kept lists none version later history =
    placed_alone version later kept history none.0 ∙ sym (placed_alone version later lists history none.1)

-- what one did, of which P holds
pub record Did (P : ℕ → List Done → Type 0) (keeps : Bool) (number : ℕ) (work : Work) : Type 0 where
  pub done : List Done
  pub is : P number done
  pub kept : IsKept keeps work.done.items done

-- and what each did, from processor `first` on
pub record Did-all {X : Type 0} (P : ℕ → List Done → Type 0) (keeps : Bool) (work : X → Work) (first : ℕ)
    (jobs : List X) : Type 0 where
  pub lists : List (List Done)
  pub count : length lists ≡ length jobs
  pub each : (actor : ℕ) → first ≤ actor → actor < first + length jobs → P actor (done_by first actor lists)
  pub kept : AreKept keeps (map (λ job. (work job).done.items) jobs) lists

-- what one did takes the place of nothing
pub set_kept : (keeps : Bool) (dones : List (List Done)) (k : ℕ) (one done : List Done) → k < length dones
    → all_looks_in dones ≡ 0 → IsKept keeps one done → AreKept keeps (set dones k one) (set dones k done)
set_kept true dones k one done within none same = ap (set dones k) same
set_kept false dones k one done within none is = (
  omega (arith, count_set dones k one within, none, is.0),
  omega (arith, count_set dones k done within, none, is.1),
)

none_kept : (keeps : Bool) → AreKept keeps [] []
none_kept true = refl
none_kept false = (refl, refl)

both_kept : (keeps : Bool) (one : List Done) (rest : List (List Done)) (done : List Done) (lists : List (List Done))
    → IsKept keeps one done → AreKept keeps rest lists → AreKept keeps (one ∷ rest) (done ∷ lists)
both_kept true one rest done lists same more = grind (arith, same, more)
both_kept false one rest done lists none more =
    (omega (arith, none.0, more.0), omega (arith, none.1, more.1))

pub collect : {X : Type 0} (P : ℕ → List Done → Type 0) (keeps : Bool) (number : X → ℕ) (work : X → Work)
    (first : ℕ) (jobs : List X) → All (λ job. Did P keeps (number job) (work job)) jobs →
    map number jobs ≡ range_with_len first (length jobs) → Did-all P keeps work first jobs
unfolding done_by
collect P keeps number work first [] all numbers = record {
  lists = [];
  count = refl;
  each = λ actor low high. absurd (omega (arith, low, high));
  kept = none_kept keeps;
}
collect P keeps number work first (job ∷ jobs) all numbers =
    let one = all 0 job (omega arith) in
    let here : number job ≡ first = grind (arith, numbers) in
    let tail : map number jobs ≡ range_with_len (first + 1) (length jobs) = grind (arith, numbers) in
    let rest = collect P keeps number work (first + 1) jobs (λ k d less. all (suc k) d (omega (arith, less))) tail in
    let is = one.is in
    record {
      lists = one.done ∷ rest.lists;
      count = ap suc rest.count;
      each = λ actor low high. grind (arith, nat_tests, here, is, rest.each actor);
      kept = both_kept keeps (work job).done.items (map (λ job. (work job).done.items) jobs) one.done rest.lists
          one.kept rest.kept;
    }
