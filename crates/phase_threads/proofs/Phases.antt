-- A phase, as the history of the run takes it in.
use Rattle.std.proofs.Common.{◌≡◌, ℕ, ◌+◌, ◌<◌, ◌≤◌, List, [], ◌∷◌, ◌++◌, length, map, take, drop, flat_map, All}
use Rattle.std.proofs.Common.{Option}
use Rattle.std.proofs.Common.{Vec, Global, sym, ◌∙◌, ap, arith, reverse, Some, Result, Ok, Err, OnOk, take-append-drop}
use Rattle.std.proofs.Common.{get_or, subst}
use Rattle.board_prelude.proofs.{reverse-append, reverse-reverse, length-append, append-nil, flat_map-append}
use Rattle.board_prelude.proofs.{drop-append_seam, take-append_seam, All-drop, Entry, Setup, IsCardList, version_of}
use Rattle.board_prelude.proofs.{IsLegal, drop_more, entries_by}
use Rattle.board_prelude.specs.{Statement}
use Rattle.std.proofs.lemmas.List.{take-map, drop-map}
use Rattle.std.proofs.lemmas.List.Elements.{All-map}
use Rattle.board_core.specs.Kept.{Standing}
use Rattle.run_order.specs.declared.done.Done.{Done}
use Rattle.run_order.specs.Placing.{placed}
use Rattle.run_order.specs.Room.{Order}
use Rattle.run_order.specs.PhaseRun.{bare, IsPhaseRun, PhaseRuns}
use Rattle.run_order.specs.Places.{AreInPlace, AreAllInPlace}
use Rattle.run_order.specs.Trace.{Begins}
use Rattle.run_order.specs.Over.{IsPlacedBelow, over}
use Rattle.phase_threads.specs.declared.worker.Work.{Work}
use Rattle.phase_threads.specs.Jobs.{HasRun, IsStatement, TakesIn, done_in}
use Rattle.phase_threads.specs.Placed.{entries_of}
use Rattle.phase_threads.specs.Works.{page_of}
use Rattle.run_order.proofs.Histories.{all_reverse, over_front}
use Rattle.board_spec.proofs.ReplayLaws.{legal_before}

-- what a history gained, the oldest first
abbrev pub gained : (opened entries : List Entry) → List Entry
gained opened entries = drop (length opened) entries

-- a history that went from `before` to `now`, and the same with the oldest entry first
pub record Grew (before now opened entries : List Entry) : Type 0 where
  pub begins : Begins before now
  pub old : opened ≡ reverse before
  pub is : entries ≡ reverse now

module _ {before now opened entries : List Entry} (grew : Grew before now opened entries) where
  cut : entries ≡ reverse before ++ reverse grew.begins.0
  cut = grew.is ∙ (ap reverse grew.begins.1 ∙ reverse-append grew.begins.0 before)

  pub back_is : reverse entries ≡ now
  back_is = ap reverse grew.is ∙ reverse-reverse now

  pub gained_all : (P : Entry → Type 0) → All P now → All P (gained opened entries)
  gained_all P all = All-drop P (length opened) entries (rw grew.is (all_reverse P now all))

  pub whole_is : reverse (gained opened entries) ++ before ≡ now
  whole_is =
      let back = drop-append_seam (reverse before) (reverse grew.begins.0) in
      rw (grew.old, cut, back, reverse-reverse grew.begins.0) (sym grew.begins.1)

  pub gained_within : length opened ≤ length entries
  gained_within = rw (grew.old, cut) (omega (arith, length-append (reverse before) (reverse grew.begins.0)))

  front : take (length opened) entries ≡ reverse before
  front = rw (grew.old, cut) (take-append_seam (reverse before) (reverse grew.begins.0))

  pub front_is : reverse (take (length opened) entries) ≡ before
  front_is = ap reverse front ∙ reverse-reverse before

  pub front_all : (n : ℕ) → n ≤ 8 → All (λ entry. entry.actor < n) before
      → All (λ entry. entry.actor < 8) (take (length opened) entries)
  front_all n few all =
      rw front (all_reverse (λ (entry : Entry). entry.actor < 8) before (λ k d less.
      let one = all k d less in omega (arith, one, few)))

  -- the processors of entries, that of the oldest first
  pub earlier_actors : (n count : ℕ) (actors : List ℕ) → n ≤ 8 → All (λ entry. entry.actor < n) before
      → count ≡ length opened → actors ≡ map (λ (entry : Entry). entry.actor) entries
      → All (λ actor. actor < 8) (take count actors)
  earlier_actors n count actors few all count_is actors_is =
      let actor : Entry → ℕ = λ entry. entry.actor in
      rw (count_is, actors_is, take-map actor (length opened) entries) (All-map (λ a. a < 8) actor
      (take (length opened) entries) (front_all n few all))

  pub later_actors : (n count : ℕ) (actors : List ℕ) → All (λ entry. entry.actor < n) now → count ≡ length opened
      → actors ≡ map (λ (entry : Entry). entry.actor) entries → All (λ actor. actor < n) (drop count actors)
  later_actors n count actors all count_is actors_is =
      let actor : Entry → ℕ = λ entry. entry.actor in
      rw (count_is, actors_is, drop-map actor (length opened) entries) (All-map (λ a. a < n) actor
      (gained opened entries) (gained_all (λ (entry : Entry). entry.actor < n) all))

-- ---- the history of the run

pub takes_in : {before now : Standing} {opened entries : List Entry} {phase : List Statement} {works : List Work}
    (old new : Option Order) (version : ℕ) → PhaseRuns
    → (run : HasRun (λ actor. entries_by actor (entries_of old before.entries)) before now phase works)
    → Grew before.entries now.entries opened entries → IsCardList before.setup.cards → IsLegal now.setup now.entries
    → All (λ entry. entry.actor < length works) now.entries → All (IsStatement before.setup (length works)) phase
    → version ≡ version_of before.setup before.entries → IsLegal before.setup (entries_of old before.entries)
    → bare (entries_of old before.entries) ≡ bare before.entries → entries_of new (reverse entries)
    ≡ placed version (gained opened entries) (done_in works) (entries_of old (reverse (take (length opened) entries)))
    → TakesIn phase before now works (entries_of old before.entries) (entries_of new now.entries)
takes_in {before} {now} {opened} {entries} {phase} {works} old new version law run grew cards legal callers speakers
    version_is kept same placed_is =
    let later : List Entry = gained opened entries in let history : List Entry = entries_of old before.entries in
    let whole = whole_is grew in
    let is_run : IsPhaseRun before.setup before.entries later phase run.lists = record {
      cards = cards;
      legal = rw (whole_is grew, ← run.setup) legal;
      callers = rw run.count (gained_all grew (λ (entry : Entry). entry.actor < length works) callers);
      speakers = rw run.count (λ k d less. (speakers k d less).actor);
      each = λ actor less. rw (whole_is grew) (run.each actor (rw run.count at less));
    } in
    let there = law before.setup before.entries later phase run.lists history is_run kept same in
    let all : entries_of new now.entries ≡ placed (version_of before.setup before.entries) later run.lists history =
    ap (entries_of new) (sym (back_is grew)) ∙ (placed_is
    ∙ (ap (λ (h : List Entry). placed version later (done_in works) (entries_of old h)) (front_is grew)
    ∙ (run.same version later history ∙ ap (λ (v : ℕ). placed v later run.lists history) version_is))) in
    subst (λ (h : List Entry). TakesIn phase before now works history h) (sym all) (record {
      legal = there.legal;
      same = there.bus ∙ ap bare whole;
      phases = there.phases;
      added = there.added;
      adds = there.adds;
      size = there.size;
      callers = rw run.count at there.callers;
      places = there.places;
      told = λ actor less. run.lines later whole actor less ∙ ap page_of (sym (there.own actor));
    })

-- ---- phase after phase

abbrev pub Phase : Type 0
Phase = Vec Statement Global

abbrev pub in_phase : Phase → List Statement
in_phase phase = phase.items

pub all_in_place : (setup : Setup) (phase : List Statement) (earlier : List (List Statement))
    (added history all : List Entry) → all ≡ added ++ history → length added ≡ length phase →
    AreInPlace setup history added → AreAllInPlace setup earlier history → AreAllInPlace setup (phase ∷ earlier) all
all_in_place setup phase earlier added history all is size places before =
    grind (arith, is, size, take-append_seam added history, drop-append_seam added history, places, before)

pub statements_more : (done : List Phase) (phase : Phase)
    → length (flat_map in_phase (done ++ phase ∷ [])) ≡ length (flat_map in_phase done) + length phase.items
statements_more done phase = simp (flat_map-append, length-append, append-nil)

pub statements_within : (done : List Phase) (phase : Phase) (rest : List Phase)
    → length (flat_map in_phase done) + length phase.items ≤ length (flat_map in_phase (done ++ phase ∷ rest))
statements_within done phase rest = simp (flat_map-append, length-append) (omega arith)

-- the statements of the phases before one, and its own
pub few_so_far : (phases : List Phase) (i : ℕ) (phase : Phase) → i < length phases → phase ≡ get_or phases i phase
    → length (flat_map in_phase (take i phases)) + length phase.items ≤ length (flat_map in_phase phases)
few_so_far phases i phase less is =
    let within = statements_within (take i phases) phase (drop (i + 1) phases) in
    grind (arith, within, take-append-drop i phases, drop_more phases i phase less)

-- ---- a phase that an order takes in, and an order that begins

-- the bus's history, in two parts
pub cut_is : (n : ℕ) (bus : List Entry) → reverse bus ≡ reverse (drop n bus) ++ reverse (take n bus)
cut_is n bus = ap reverse (sym (take-append-drop n bus)) ∙ reverse-append (take n bus) (drop n bus)

pub legal_front : (setup : Setup) (n : ℕ) (bus : List Entry) → IsLegal setup (reverse bus)
    → IsLegal setup (reverse (take n bus))
legal_front setup n bus legal = legal_before setup (reverse (drop n bus)) (reverse (take n bus))
    (rw (cut_is n bus) at legal)

-- what an order takes in over the whole of the bus's history, it takes in over what it was before
pub taken_in : (bus : List Entry) (opened version : ℕ) (works : List (List Done)) (old new : Order) →
    opened ≤ length bus → old.bus ≡ opened → All (IsPlacedBelow old.bus) old.entries →
    over bus new.entries ≡ placed version (drop old.bus bus) works (over bus old.entries) → entries_of (Some new)
    (reverse bus) ≡ placed version (drop opened bus) works (entries_of (Some old) (reverse (take opened bus)))
taken_in bus opened version works old new fits size within is =
    let front = over_front opened bus old.entries (rw size at within) in
    rw (reverse-reverse bus, reverse-reverse (take opened bus), front) (rw size at is)

pub on_ok : {T E : Type 0} {P Q : Type 0} (result : Result T E) → (P → Q) → OnOk result P → OnOk result Q
on_ok result more is = grind (arith, more)

pub three_on_ok : {T E : Type 0} {P Q R S : Type 0} (result : Result T E) → (P → Q → R → S) → OnOk result P
    → OnOk result Q → OnOk result R → OnOk result S
three_on_ok (Ok value) more p q r = more p q r
three_on_ok (Err error) more p q r = tt
