-- The law of the places: a phase that was placed is whole.
use Rattle.std.proofs.Common.{◌≡◌, ℕ, ◌+◌, ◌<◌, ◌≤◌, ◌==◌, cond, List, [], ◌∷◌, ◌++◌, map, length, drop, All, refl, sym}
use Rattle.std.proofs.Common.{◌∙◌, ap, arith, inl, inr, reverse, if◌then◌else◌, get_or, suc}
use Rattle.std.proofs.lemmas.List.{append_cancel_right}
use Rattle.board_spec.proofs.OrderLawProofs.{events-append, statements-append, statements-newest}
use Rattle.board_prelude.proofs.{cases_lt, nat_tests, append-nil, reverse-append, reverse-reverse, get_or_past}
use Rattle.board_prelude.proofs.{filter-append, map-append, length-map, length-reverse, length-take, take_all, drop_all}
use Rattle.board_prelude.proofs.{take-append-le, drop-append-le, Event, Entry, version_of, statement_of, statements_of}
use Rattle.board_prelude.proofs.{events_by, IsWholePhase, HasPhases, All-cons, get_or-map}
use Rattle.board_prelude.specs.{Statement}
use Rattle.run_order.specs.declared.done.Done.{Done}
use Rattle.run_order.specs.Placing.{event_of, placed, done_by}
use Rattle.run_order.specs.PhaseRun.{bare, AnswersAreBlind, PhaseRuns}
use Rattle.run_order.proofs.Histories.{onto, onto_is, all_turned}
use Rattle.run_order.proofs.Fitting.{late_by, Waits, first_all, follows_on}
use Rattle.run_order.proofs.Placement.{Each, own, Stands, placed_holds}
use Rattle.run_order.proofs.Counts.{from_first}

-- ---- statements and events

own_append : (c : ℕ) (xs ys : List Entry) → own c (xs ++ ys) ≡ own c xs ++ own c ys
own_append c xs ys = grind (arith, filter-append (λ (e : Entry). e.actor == c) xs ys, map-append)

events_own : (c : ℕ) (h : List Entry) → events_by c (statements_of h) ≡ reverse (own c h)
events_own c [] = refl
events_own c (entry ∷ before) =
    let split = events-append c (statements_of before) (statement_of entry ∷ []) in
    let turned = reverse-append (entry.event ∷ []) (own c before) in let none = append-nil (reverse (own c before)) in
    grind (arith, nat_tests, statements-newest entry before, events_own c before, none, split, turned)

back_again : (items : List Done) → onto (reverse items) [] ≡ items
back_again items = grind (arith, onto_is (reverse items) [], append-nil, reverse-reverse)

nobody_else : (actor n : ℕ) (phase : List Statement) → n ≤ actor → All (λ statement. statement.actor < n) phase
    → events_by actor phase ≡ []
nobody_else actor n [] past few = refl
nobody_else actor n (statement ∷ phase) past few =
    let rest = nobody_else actor n phase past (λ k d less. few (suc k) d (omega (arith, less))) in
    grind (arith, nat_tests, few 0 statement (omega arith), rest)

-- statements of which none is of a processor from `n` on
all_below : (n : ℕ) (part : List Statement) → ((actor : ℕ) → n ≤ actor → length (events_by actor part) ≡ 0)
    → All (λ statement. statement.actor < n) part
all_below n [] none = λ k d less. absurd (omega (arith, less))
all_below n (statement ∷ part) none =
    let rest = all_below n part (λ actor past. let no = none actor past in grind (arith, nat_tests, no)) in
    let here : statement.actor < n = elim (cases_lt statement.actor n) [
      | inl less ↦ less
      | inr past ↦ let no = none statement.actor past in absurd (grind (arith, nat_tests, no))
    ] in
    All-cons (λ (s : Statement). s.actor < n) statement part here rest

-- so are the entries
entries_below : (n : ℕ) (h : List Entry) → All (λ statement. statement.actor < n) (statements_of h)
    → All (λ entry. entry.actor < n) h
entries_below n h all = all_turned (λ (e : Entry). e.actor < n) h
    (λ k d less. let one = all k (statement_of d) (rw (length-map (reverse h) statement_of) less) in
    rw (get_or-map statement_of (reverse h) k d (statement_of d) less) at one)

-- ---- as many statements

abbrev count : ℕ → List Statement → ℕ
count c xs = length (events_by c xs)

drop_one : ℕ → List Statement → List Statement
drop_one a [] = []
drop_one a (y ∷ ys) = if y.actor == a then ys else y ∷ drop_one a ys

drop_counts : (a c : ℕ) (ys : List Statement) → 0 < count a ys
    → (length ys ≡ length (drop_one a ys) + 1) × (count c ys ≡ count c (drop_one a ys) + cond (a == c) 1 0)
unfolding drop_one
drop_counts a c [] some = grind arith
drop_counts a c (y ∷ ys) some = grind (arith, nat_tests, some, drop_counts a c ys)

-- two lists of statements with as many of each processor's are as long
same_size : (xs ys : List Statement) → ((c : ℕ) → count c xs ≡ count c ys) → length xs ≡ length ys
same_size [] [] same = refl
same_size [] (y ∷ ys) same = let none = same y.actor in absurd (grind (arith, nat_tests, none))
same_size (x ∷ xs) ys same =
    let own = same x.actor in
    let some : 0 < count x.actor ys = grind (arith, nat_tests, own) in
    let rest = same_size xs (drop_one x.actor ys)
    (λ c. let own = same c in grind (arith, nat_tests, own, drop_counts x.actor c ys some)) in
    omega (arith, rest, (drop_counts x.actor x.actor ys some).0)

-- ---- phases

has_more : (phases : List (List Statement)) (phase xs part : List Statement) → HasPhases phases xs
    → IsWholePhase phase part → HasPhases (phases ++ phase ∷ []) (xs ++ part)
has_more [] phase xs part none whole =
    grind (arith, nat_tests, take_all, drop_all, take-append-le, drop-append-le, length-take)
has_more (p ∷ phases) phase xs part has whole =
    grind (
      arith,
      nat_tests,
      take_all,
      drop_all,
      take-append-le,
      drop-append-le,
      length-take,
      has_more phases phase
          (drop (length p) xs) part,
    )

-- ---- the law

pub phase_runs : AnswersAreBlind → PhaseRuns
phase_runs blind setup opened later phase works final run legal same =
    let whole : List Entry = onto later opened in let v : ℕ = version_of setup opened in
    let is : reverse later ++ opened ≡ whole = sym (onto_is later opened) in
    let fit : Each (Stands setup whole final opened []) 0 works = λ k c from less.
    let place : k ≡ c = omega (arith, from) in let items : List Done = get_or works c [] in
    let work = rw (is, (from_first works c).0) at (run.each c (omega (arith, from, less))) in
    let waits : Waits setup whole opened c items = record {
      from = opened;
      low = v;
      mine = refl;
      follows = let end = work.closed in rw (back_again items) at (follows_on setup run.cards whole c opened
          (reverse items) work.seen work.known [] work.trace end.begins end.meets end.mine);
    } in
    rw place (waits, late_by waits (omega arith), first_all _ (λ n due. tt) items) in
    let all = placed_holds blind setup whole final later opened works final [] tt
    (record { is = refl; legal = legal; bare = same; places = tt }) refl (rw is at run.legal) run.callers fit in
    let part : List Statement = statements_of all.added in
    let said : statements_of (placed v later works final) ≡ statements_of final ++ part =
    ap statements_of all.holds.is ∙ statements-append all.added final in
    let stated : (c : ℕ) → map event_of (done_by 0 c works) ≡ events_by c phase = λ c.
    elim (cases_lt c (length works)) [
      | inl few ↦ (run.each c few).said
      | inr past ↦ ap (map event_of) ((from_first works c).0 ∙ get_or_past works c [] (omega (arith, past)))
          ∙ sym (nobody_else c (length works) phase past run.speakers)
    ] in
    let events : (c : ℕ) → events_by c part ≡ events_by c phase = λ c.
    let items : List Event = map event_of (done_by 0 c works) in
    events_own c all.added ∙ (ap reverse (append_cancel_right (own c all.added) (reverse items) (own c final)
    (sym (own_append c all.added final) ∙ (ap (own c) (sym all.holds.is) ∙ (all.own c ∙ onto_is items (own c final)))))
    ∙ (reverse-reverse items ∙ stated c)) in
    let is_whole : IsWholePhase phase part =
    record { size = same_size part phase (λ c. ap length (events c)); each = events } in
    record {
      legal = all.holds.legal;
      bus = all.holds.bare ∙ ap bare (onto_is later opened);
      phases = λ phases has. rw said (has_more phases phase (statements_of final) part has is_whole);
      added = all.added;
      adds = all.holds.is;
      size = sym (length-map (reverse all.added) statement_of ∙ length-reverse all.added) ∙ is_whole.size;
      callers = entries_below (length works) all.added (all_below (length works) part (λ c past.
          ap length (events c ∙ nobody_else c (length works) phase past run.speakers)));
      places = all.holds.places;
      own = all.mine;
    }
