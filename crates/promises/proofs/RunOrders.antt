-- Each list of phases has a history that is a run of it: the looks with which each processor begins a phase stand
-- first, processor after processor, and then what else each does.
use Rattle.std.proofs.Common.{◌≡◌, ◌≢◌, ◌+◌, ◌<◌, ◌≤◌, ◌++◌, ◌==◌, zero, suc, ℕ, Bool, true, false, List, [], ◌∷◌, filter}
use Rattle.std.proofs.Common.{if◌then◌else◌, length, map, reverse, take, drop, refl, sym, ap, subst, ◌∙◌, arith, inl, inr}
use Rattle.std.proofs.Common.{All, append_assoc, ◌⊎◌}
use Rattle.std.proofs.lemmas.List.Elements.{recursion_from_All, filter-append, All-nil, All-cons}
use Rattle.std.proofs.lemmas.List.{length-append, append-nil, reverse-append, length-map}
use Rattle.std.proofs.Math.Seq.{take-append_seam, drop-append_seam}
use Rattle.std.proofs.lemmas.Bool.{cases_lt, cases_Bool, cases_eq, true≢false}
use Rattle.std.proofs.lemmas.Grind.{flat_map-append, common_steps}
use Rattle.std.proofs.lemmas.Bool.Decides.{nat_tests}
use mathlib.Core.List.{reverse-cons}
use Rattle.board_spec.specs.declared.event.Entry.{Entry}
use Rattle.board_spec.specs.declared.event.Event.{Event}
use Rattle.board_spec.specs.declared.event.Event.TheVariants.{Look as LookAt}
use Rattle.board_spec.specs.declared.event.Reply.{Reply}
use Rattle.board_spec.specs.declared.event.Reply.TheVariants.{Saw}
use Rattle.board_spec.specs.declared.event.Statement.{Statement}
use Rattle.std.specs.List.{AllByRecursion}
use Rattle.board_spec.specs.Setup.{Setup}
use Rattle.board_spec.specs.Legal.{IsLegal}
use Rattle.board_spec.specs.Laws.{IsAddressed, SomeReplay}
use Rattle.board_spec.specs.Orders.{IsWholePhase, HasPhases, statement_of, statements_of}
use Rattle.board_spec.specs.OrderLaws.{in_file_order}
use Rattle.board_spec.proofs.OrderLawProofs.{statements-newest}
use Rattle.promises.specs.Headline.{InRunOrder, Each, IsLook, StandsAfter, IsPlaced}

abbrev is_look : Event → Bool
is_look (LookAt kind addr smm) = true
is_look _ = false

-- the statements of a processor, the looks with which they begin, and the others
abbrev by : (actor : ℕ) → List Statement → List Statement
by actor phase = filter (λ statement. statement.actor == actor) phase

abbrev leading : List Statement → List Statement
leading [] = []
leading (first ∷ later) = if is_look first.event then first ∷ leading later else []

abbrev others : List Statement → List Statement
others [] = []
others (first ∷ later) = if is_look first.event then others later else first ∷ later

-- those of all processors below n
abbrev heads : (n : ℕ) → List Statement → List Statement
heads zero phase = []
heads (suc n) phase = heads n phase ++ leading (by n phase)

abbrev tails : (n : ℕ) → List Statement → List Statement
tails zero phase = []
tails (suc n) phase = tails n phase ++ others (by n phase)

abbrev in_order : (n : ℕ) → List Statement → List Statement
in_order n phase = heads n phase ++ tails n phase

abbrev all_in_order : (n : ℕ) → List (List Statement) → List Statement
all_in_order n [] = []
all_in_order n (phase ∷ later) = in_order n phase ++ all_in_order n later

-- ---- what holds of each statement

cut : (statements : List Statement) → leading statements ++ others statements ≡ statements
cut [] = refl
cut (first ∷ later) = grind (arith, nat_tests, cut later)

module _ (P : Statement → Type 0) where
  abbrev Hold : List Statement → Type 0
  Hold = AllByRecursion P

  hold_both : (first later : List Statement) → Hold first → Hold later → Hold (first ++ later)
  hold_both [] later of_first of_later = of_later
  hold_both (s ∷ first) later of_first of_later = (of_first.0, hold_both first later of_first.1 of_later)

  hold_parts : (first later : List Statement) → Hold (first ++ later) → Hold first × Hold later
  hold_parts [] later all = (tt, all)
  hold_parts (s ∷ first) later all =
      let rest = hold_parts first later all.1 in ((all.0, rest.0), rest.1)

  hold_by : (actor : ℕ) (phase : List Statement) → Hold phase → Hold (by actor phase)
  hold_by actor [] all = tt
  hold_by actor (s ∷ phase) all = grind (arith, nat_tests, common_steps, hold_by actor phase)

  hold_cut : (statements : List Statement) → Hold statements → Hold (leading statements) × Hold (others statements)
  hold_cut statements all =
      hold_parts (leading statements) (others statements) (subst Hold (sym (cut statements)) all)

  hold_heads : (n : ℕ) (phase : List Statement) → Hold phase → Hold (heads n phase)
  hold_heads zero phase all = tt
  hold_heads (suc n) phase all =
      hold_both (heads n phase) (leading (by n phase)) (hold_heads n phase all)
      (hold_cut (by n phase) (hold_by n phase all)).0

  hold_tails : (n : ℕ) (phase : List Statement) → Hold phase → Hold (tails n phase)
  hold_tails zero phase all = tt
  hold_tails (suc n) phase all =
      hold_both (tails n phase) (others (by n phase)) (hold_tails n phase all)
      (hold_cut (by n phase) (hold_by n phase all)).1

  hold_all : (n : ℕ) (phases : List (List Statement)) → Hold (in_file_order phases) → Hold (all_in_order n phases)
  hold_all n [] all = tt
  hold_all n (phase ∷ later) all =
      let parts = hold_parts phase (in_file_order later) all in
      hold_both (in_order n phase) (all_in_order n later)
      (hold_both (heads n phase) (tails n phase) (hold_heads n phase parts.0) (hold_tails n phase parts.0))
      (hold_all n later parts.1)

  all_of : (statements : List Statement) → Hold statements → All P statements
  all_of [] all = All-nil P
  all_of (s ∷ later) all = All-cons P s later all.0 (all_of later all.1)

-- ---- each processor's statements, in its own order

abbrev AreOf : ℕ → List Statement → Type 0
AreOf actor = AllByRecursion (λ statement. statement.actor ≡ actor)

own : (actor : ℕ) (phase : List Statement) → AreOf actor (by actor phase)
own actor [] = tt
own actor (s ∷ phase) = grind (arith, nat_tests, common_steps, own actor phase)

by_same : (actor : ℕ) (statements : List Statement) → AreOf actor statements → by actor statements ≡ statements
by_same actor [] are = refl
by_same actor (s ∷ later) are = grind (arith, nat_tests, common_steps, by_same actor later)

by_other : (actor other : ℕ) (statements : List Statement) → AreOf other statements → actor ≢ other →
    by actor statements ≡ []
by_other actor other [] are not = refl
by_other actor other (s ∷ later) are not = grind (arith, nat_tests, common_steps, by_other actor other later)

module _ (actor : ℕ) (phase : List Statement) where
  own_parts : (n : ℕ) → AreOf n (leading (by n phase)) × AreOf n (others (by n phase))
  own_parts n = hold_cut (λ statement. statement.actor ≡ n) (by n phase) (own n phase)

  no_heads : (n : ℕ) → n ≤ actor → by actor (heads n phase) ≡ []
  no_heads zero past = refl
  no_heads (suc n) past =
      filter-append (λ statement. statement.actor == actor) (heads n phase) (leading (by n phase))
      ∙ cc (no_heads n (omega arith), by_other actor n (leading (by n phase)) (own_parts n).0 (omega arith))

  no_tails : (n : ℕ) → n ≤ actor → by actor (tails n phase) ≡ []
  no_tails zero past = refl
  no_tails (suc n) past =
      filter-append (λ statement. statement.actor == actor) (tails n phase) (others (by n phase))
      ∙ cc (no_tails n (omega arith), by_other actor n (others (by n phase)) (own_parts n).1 (omega arith))

  last_heads : by actor (heads actor phase ++ leading (by actor phase)) ≡ leading (by actor phase)
  last_heads =
      let none = no_heads actor (omega arith) in
      let mine = by_same actor (leading (by actor phase)) (own_parts actor).0 in
      filter-append (λ statement. statement.actor == actor) (heads actor phase) (leading (by actor phase))
      ∙ rw (none, mine) refl

  last_tails : by actor (tails actor phase ++ others (by actor phase)) ≡ others (by actor phase)
  last_tails =
      let none = no_tails actor (omega arith) in
      let mine = by_same actor (others (by actor phase)) (own_parts actor).1 in
      filter-append (λ statement. statement.actor == actor) (tails actor phase) (others (by actor phase))
      ∙ rw (none, mine) refl

  by_heads : (n : ℕ) → actor < n → by actor (heads n phase) ≡ leading (by actor phase)
  by_heads zero below = absurd (omega arith)
  by_heads (suc n) below =
      elim (cases_lt actor n) [
        | inl before ↦
            let other = by_other actor n (leading (by n phase)) (own_parts n).0 (omega arith) in
            filter-append (λ statement. statement.actor == actor) (heads n phase) (leading (by n phase))
            ∙ (rw (by_heads n before, other) (append-nil (leading (by actor phase))))
        | inr past ↦
            let is : actor ≡ n = omega arith in
            subst (λ m. by actor (heads m phase ++ leading (by m phase)) ≡ leading (by actor phase)) is last_heads
      ]

  by_tails : (n : ℕ) → actor < n → by actor (tails n phase) ≡ others (by actor phase)
  by_tails zero below = absurd (omega arith)
  by_tails (suc n) below =
      elim (cases_lt actor n) [
        | inl before ↦
            let other = by_other actor n (others (by n phase)) (own_parts n).1 (omega arith) in
            filter-append (λ statement. statement.actor == actor) (tails n phase) (others (by n phase))
            ∙ (rw (by_tails n before, other) (append-nil (others (by actor phase))))
        | inr past ↦
            let is : actor ≡ n = omega arith in
            subst (λ m. by actor (tails m phase ++ others (by m phase)) ≡ others (by actor phase)) is last_tails
      ]

abbrev AreBelow : ℕ → List Statement → Type 0
AreBelow n = AllByRecursion (λ statement. statement.actor < n)

none_past : (actor n : ℕ) (phase : List Statement) → AreBelow n phase → n ≤ actor → by actor phase ≡ []
none_past actor n [] below past = refl
none_past actor n (s ∷ phase) below past = grind (arith, nat_tests, common_steps, none_past actor n phase)

by_order : (n : ℕ) (phase : List Statement) → AreBelow n phase → (actor : ℕ) →
    by actor (in_order n phase) ≡ by actor phase
by_order n phase below actor =
    filter-append (λ statement. statement.actor == actor) (heads n phase) (tails n phase)
    ∙ elim (cases_lt actor n) [
      | inl before ↦ rw (by_heads actor phase n before, by_tails actor phase n before) (cut (by actor phase))
      | inr past ↦
          let none = none_past actor n phase below past in
          rw (no_heads actor phase n past, no_tails actor phase n past, none) refl
    ]

-- ---- how many they are

abbrev tally : (n : ℕ) → List Statement → ℕ
tally zero phase = 0
tally (suc n) phase = tally n phase + length (by n phase)

tally_nil : (n : ℕ) → tally n [] ≡ 0
tally_nil zero = refl
tally_nil (suc n) = omega (arith, tally_nil n)

tally_past : (n : ℕ) (s : Statement) (phase : List Statement) → n ≤ s.actor → tally n (s ∷ phase) ≡ tally n phase
tally_past zero s phase past = refl
tally_past (suc n) s phase past = grind (arith, nat_tests, common_steps, tally_past n s phase)

tally_more : (n : ℕ) (s : Statement) (phase : List Statement) → s.actor < n →
    tally n (s ∷ phase) ≡ tally n phase + 1
tally_more zero s phase below = absurd (omega arith)
tally_more (suc n) s phase below =
    grind (arith, nat_tests, common_steps, tally_more n s phase, tally_past n s phase)

tally_all : (n : ℕ) (phase : List Statement) → AreBelow n phase → tally n phase ≡ length phase
tally_all n [] below = tally_nil n
tally_all n (s ∷ phase) below = omega (arith, tally_more n s phase below.0, tally_all n phase below.1)

sizes : (n : ℕ) (phase : List Statement) → length (heads n phase) + length (tails n phase) ≡ tally n phase
sizes zero phase = refl
sizes (suc n) phase =
    let all : length (leading (by n phase)) + length (others (by n phase)) ≡ length (by n phase) =
    sym (length-append (leading (by n phase)) (others (by n phase))) ∙ ap length (cut (by n phase)) in
    omega (
      arith,
      all,
      sizes n phase,
      length-append (heads n phase) (leading (by n phase)),
      length-append (tails n phase) (others (by n phase)),
    )

size : (n : ℕ) (phase : List Statement) → AreBelow n phase → length (in_order n phase) ≡ length phase
size n phase below =
    length-append (heads n phase) (tails n phase) ∙ (sizes n phase ∙ tally_all n phase below)

-- ---- the phases stand one after another

whole : (n : ℕ) (phase : List Statement) → AreBelow n phase → IsWholePhase phase (in_order n phase)
whole n phase below = record {
  size = size n phase below;
  each = λ actor. ap (map (λ statement. statement.event)) (by_order n phase below actor);
}

has_phases : (n : ℕ) (phases : List (List Statement)) → AreBelow n (in_file_order phases) →
    HasPhases phases (all_in_order n phases)
has_phases n [] below = refl
has_phases n (phase ∷ later) below =
    let parts = hold_parts (λ statement. statement.actor < n) phase (in_file_order later) below in
    let long = size n phase parts.0 in
    let front : take (length phase) (in_order n phase ++ all_in_order n later) ≡ in_order n phase =
    subst (λ k. take k (in_order n phase ++ all_in_order n later) ≡ in_order n phase) long
    (take-append_seam (in_order n phase) (all_in_order n later)) in
    let rest : drop (length phase) (in_order n phase ++ all_in_order n later) ≡ all_in_order n later =
    subst (λ k. drop k (in_order n phase ++ all_in_order n later) ≡ all_in_order n later) long
    (drop-append_seam (in_order n phase) (all_in_order n later)) in (
      subst (IsWholePhase phase) (sym front) (whole n phase parts.0),
      subst (HasPhases later) (sym rest) (has_phases n later parts.1),
    )

-- ---- each look in its place, said of the statements alone, the newest first

is_one : (event : Event) → is_look event ≡ true → IsLook event
is_one (LookAt kind addr smm) is = tt
is_one _ is = true≢false (sym is)

are_looks : (statements : List Statement) → AllByRecursion (λ statement. IsLook statement.event) (leading statements)
are_looks [] = tt
are_looks (s ∷ later) = grind (arith, nat_tests, common_steps, is_one s.event, are_looks later)

abbrev onto : List Statement → List Statement → List Statement
onto before [] = before
onto before (next ∷ later) = onto (next ∷ before) later

onto_both : (before first later : List Statement) → onto before (first ++ later) ≡ onto (onto before first) later
onto_both before [] later = refl
onto_both before (s ∷ first) later = onto_both (s ∷ before) first later

onto_long : (before later : List Statement) → length (onto before later) ≡ length before + length later
onto_long before [] = omega arith
onto_long before (s ∷ later) = omega (arith, onto_long (s ∷ before) later)

onto_reversed : (before later : List Statement) → onto before later ≡ reverse later ++ before
onto_reversed before [] = refl
onto_reversed before (s ∷ later) =
    onto_reversed (s ∷ before) later
    ∙ (sym (append_assoc (reverse later) (s ∷ []) before) ∙ ap (λ front. front ++ before) (sym (reverse-cons s later)))

counted : (done : List (List Statement)) (phase : List Statement) (count : ℕ) →
    count ≡ length (in_file_order done) + length phase → count ≡ length (in_file_order (done ++ phase ∷ []))
counted done phase count is = grind (arith, flat_map-append, length-append, append-nil)

module _ (phases : List (List Statement)) where
  abbrev BeginsAt : ℕ → Type 0
  BeginsAt count = (done left : List (List Statement)) × (phases ≡ done ++ left)
      × (count ≡ length (in_file_order done))

  abbrev StandsIn : (actor : ℕ) → List Statement → Type 0
  StandsIn actor [] = Unit {0}
  StandsIn actor (last ∷ before) =
      BeginsAt (length (last ∷ before))
      ⊎ (last.actor ≡ actor)
      ⊎ (IsLook last.event × (last.actor < actor) × StandsIn actor before)

  abbrev AtPlace : List Statement → (actor : ℕ) → Event → Type 0
  AtPlace before actor (LookAt kind addr smm) = StandsIn actor before
  AtPlace before actor _ = Unit {0}

  abbrev Placed : List Statement → Type 0
  Placed [] = Unit {0}
  Placed (last ∷ before) = AtPlace before last.actor last.event × Placed before

  -- statements, the oldest first, that come after others, the newest first
  abbrev Walk : (before later : List Statement) → Type 0
  Walk before [] = Unit {0}
  Walk before (next ∷ later) = AtPlace before next.actor next.event × Walk (next ∷ before) later

  at_look : (before : List Statement) (actor : ℕ) (event : Event) → StandsIn actor before → AtPlace before actor event
  at_look before actor (LookAt kind addr smm) stands = stands
  at_look before actor _ stands = tt

  at_other : (before : List Statement) (actor : ℕ) (event : Event) → is_look event ≡ false → AtPlace before actor event
  at_other before actor (LookAt kind addr smm) not = absurd (true≢false not)
  at_other before actor _ not = tt

  walk_both : (before first later : List Statement) → Walk before first → Walk (onto before first) later →
      Walk before (first ++ later)
  walk_both before [] later of_first of_later = of_later
  walk_both before (s ∷ first) later of_first of_later =
      (of_first.0, walk_both (s ∷ before) first later of_first.1 of_later)

  placed_walk : (before later : List Statement) → Placed before → Walk before later → Placed (onto before later)
  placed_walk before [] placed walk = placed
  placed_walk before (s ∷ later) placed walk = placed_walk (s ∷ before) later (walk.0, placed) walk.1

  -- a look of a processor from n on has its place after these
  abbrev Ready : (n : ℕ) → List Statement → Type 0
  Ready n before = (actor : ℕ) → n ≤ actor → StandsIn actor before

  ready_after : (n : ℕ) (s : Statement) (before : List Statement) → s.actor ≡ n → IsLook s.event → Ready n before →
      Ready n (s ∷ before)
  ready_after n s before own look ready actor least =
      elim (cases_eq n actor) [
        | inl same ↦ inr (inl (own ∙ same))
        | inr other ↦ inr (inr (look, omega (arith, own), ready actor least))
      ]

  lead : (n : ℕ) (looks before : List Statement) → AreOf n looks →
      AllByRecursion (λ statement. IsLook statement.event) looks → Ready n before →
      Walk before looks × Ready n (onto before looks)
  lead n [] before own looks ready = (tt, ready)
  lead n (s ∷ later) before own looks ready =
      let rest = lead n later (s ∷ before) own.1 looks.1 (ready_after n s before own.0 looks.0 ready) in
      ((at_look before s.actor s.event (ready s.actor (omega (arith, own.0))), rest.0), rest.1)

  walk_heads : (n : ℕ) (phase before : List Statement) → Ready 0 before →
      Walk before (heads n phase) × Ready n (onto before (heads n phase))
  walk_heads zero phase before ready = (tt, ready)
  walk_heads (suc n) phase before ready =
      let first = walk_heads n phase before ready in
      let next =
      lead n (leading (by n phase)) (onto before (heads n phase)) (own_parts n phase n).0
      (are_looks (by n phase)) first.1 in (
        walk_both before (heads n phase) (leading (by n phase)) first.0 next.0,
        λ actor least.
            subst (StandsIn actor) (sym (onto_both before (heads n phase) (leading (by n phase))))
            (next.1 actor (omega arith)),
      )

  follow : (n : ℕ) (last : Statement) (later before : List Statement) → last.actor ≡ n → AreOf n later →
      Walk (last ∷ before) later
  follow n last [] before is own = tt
  follow n last (s ∷ later) before is own =
      (at_look (last ∷ before) s.actor s.event (inr (inl (is ∙ sym own.0))), follow n s later (last ∷ before) own.0 own.1)

  walk_others : (n : ℕ) (statements before : List Statement) → AreOf n statements → Walk before (others statements)
  walk_others n [] before own = tt
  walk_others n (s ∷ later) before own =
      elim (cases_Bool (is_look s.event)) [
        | inl look ↦ rw look (walk_others n later before own.1)
        | inr other ↦ rw other (at_other before s.actor s.event other, follow n s later before own.0 own.1)
      ]

  walk_tails : (n : ℕ) (phase before : List Statement) → Walk before (tails n phase)
  walk_tails zero phase before = tt
  walk_tails (suc n) phase before =
      walk_both before (tails n phase) (others (by n phase)) (walk_tails n phase before)
      (walk_others n (by n phase) (onto before (tails n phase)) (own n phase))

  starts : (done left : List (List Statement)) (before : List Statement) → phases ≡ done ++ left →
      length before ≡ length (in_file_order done) → Ready 0 before
  starts done left [] split count actor least = tt
  starts done left (last ∷ before) split count actor least = inl (done, left, split, count)

  walk_all : (n : ℕ) (done left : List (List Statement)) (before : List Statement) → phases ≡ done ++ left →
      length before ≡ length (in_file_order done) → AreBelow n (in_file_order left) → Walk before (all_in_order n left)
  walk_all n done [] before split count below = tt
  walk_all n done (phase ∷ later) before split count below =
      let parts = hold_parts (λ statement. statement.actor < n) phase (in_file_order later) below in
      let first = walk_heads n phase before (starts done (phase ∷ later) before split count) in
      let here =
      walk_both before (heads n phase) (tails n phase) first.0 (walk_tails n phase (onto before (heads n phase))) in
      let again : phases ≡ (done ++ phase ∷ []) ++ later = split ∙ sym (append_assoc done (phase ∷ []) later) in
      let more : length (onto before (in_order n phase)) ≡ length (in_file_order (done ++ phase ∷ [])) =
      counted done phase (length (onto before (in_order n phase)))
      (onto_long before (in_order n phase) ∙ cc (count, size n phase parts.0)) in
      walk_both before (in_order n phase) (all_in_order n later) here
      (walk_all n (done ++ phase ∷ []) later (onto before (in_order n phase)) again more parts.1)

-- ---- the history

reversed : (history : List Entry) → reverse (statements_of history) ≡ map statement_of history
reversed [] = refl
reversed (entry ∷ before) =
    ap reverse (statements-newest entry before)
    ∙ (reverse-append (statements_of before) (statement_of entry ∷ [])
    ∙ ap (λ said. statement_of entry ∷ said) (reversed before))

module _ (setup : Setup) (phases : List (List Statement)) where
  stands_after : (actor version : ℕ) (before : List Entry) → StandsIn phases actor (map statement_of before) →
      StandsAfter setup phases actor version before
  stands_after actor version [] is = tt
  stands_after actor version (last ∷ before) (inl begins) =
      inl (begins.0, begins.1, begins.2, ap suc (sym (length-map before statement_of)) ∙ begins.3)
  stands_after actor version (last ∷ before) (inr (inl own)) = inr (inl own)
  stands_after actor version (last ∷ before) (inr (inr lower)) =
      inr (inr (inr (lower.0, lower.1, stands_after actor version before lower.2)))

  is_placed : (before : List Entry) (actor : ℕ) (event : Event) (reply : Reply) →
      AtPlace phases (map statement_of before) actor event → IsPlaced setup phases before actor event reply
  is_placed before actor (LookAt kind addr smm) (Saw look) is = stands_after actor look.version before is
  is_placed before actor _ reply is = tt

  all_placed : (history : List Entry) → Placed phases (map statement_of history) →
      Each (λ before entry. IsPlaced setup phases before entry.actor entry.event entry.reply) history
  all_placed [] placed = tt
  all_placed (entry ∷ before) placed =
      (is_placed before entry.actor entry.event entry.reply placed.0, all_placed before placed.1)

-- a legal history in which all phases have run
pub record Ran (setup : Setup) (phases : List (List Statement)) : Type 0 where
  pub history : List Entry
  pub legal : IsLegal setup history
  pub order : InRunOrder setup phases history

abbrev SomeRun : Type 0
SomeRun =
    (setup : Setup) (phases : List (List Statement)) (n : ℕ) →
    All (λ statement. IsAddressed statement.event) (in_file_order phases) →
    All (λ statement. statement.actor < n) (in_file_order phases) → Ran setup phases

pub some_run : SomeReplay → SomeRun
some_run some_replay setup phases n addressed below =
    let steps = all_in_order n phases in
    let all_below : AreBelow n (in_file_order phases) =
    recursion_from_All (λ statement. statement.actor < n) (in_file_order phases) below in
    let all_addressed : All (λ statement. IsAddressed statement.event) steps =
    all_of (λ statement. IsAddressed statement.event) steps
    (hold_all (λ statement. IsAddressed statement.event) n phases
    (recursion_from_All (λ statement. IsAddressed statement.event) (in_file_order phases) addressed)) in
    let found = some_replay setup steps all_addressed in
    let said : map statement_of found.history ≡ onto [] steps =
    sym (reversed found.history)
    ∙ (ap reverse found.replay.same ∙ (sym (append-nil (reverse steps)) ∙ sym (onto_reversed [] steps))) in
    record {
      history = found.history;
      legal = found.replay.legal;
      order = (
        subst (HasPhases phases) (sym found.replay.same) (has_phases n phases all_below),
        all_placed setup phases found.history (subst (Placed phases) (sym said)
            (placed_walk phases [] steps tt (walk_all phases n [] phases [] refl refl all_below))),
      );
    }
