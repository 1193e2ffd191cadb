-- The placed history is legal, is the bus's without its looks, has each look in its place and each processor's events.
use Rattle.std.proofs.Common.{◌≡◌, ◌≢◌, ℕ, ◌+◌, ◌<◌, ◌==◌, false, List, [], ◌∷◌, map, length, get_or, set, refl, arith}
use Rattle.std.proofs.Common.{get_or-set_other, zero, suc, true, inl, inr, ◌≤◌, nat_le, ◌++◌, sym, All, ◌∙◌, ap}
use Rattle.std.proofs.Common.{if◌then◌else◌}
use Rattle.board_prelude.proofs.{nat_tests, get_or-set_at, Event, Saw, Entry, entries_by, next_entry, length-map, Setup}
use Rattle.board_prelude.proofs.{version_of, length-set, get_or_past, cases_Bool, Reply, IsNext, IsLegal}
use Rattle.board_spec.specs.declared.event.Event.TheVariants.{Look as LookAt}
use Rattle.run_order.specs.declared.done.Done.{Done}
use Rattle.run_order.specs.declared.done.Done.TheVariants.{Looked, Went}
use Rattle.run_order.specs.Placing.{event_of, with_looks, left_after, with_all_looks, all_left, without_first, passed}
use Rattle.run_order.specs.Placing.{done_by, is_look, placed}
use Rattle.run_order.specs.Places.{without_lower, IsPlaceOf, IsInPlace, AreInPlace}
use Rattle.run_order.specs.PhaseRun.{bare, AnswersAreBlind}
use Rattle.run_order.proofs.Histories.{onto, version_step, legal_front, begins_before, onto_begins}
use Rattle.run_order.proofs.Counts.{from_first}
use Rattle.run_order.proofs.Fitting.{FirstLook, first_goes, first_all, Waits, Late, late_by, IsNextCall, next_call}
use Rattle.run_order.proofs.Fitting.{none_left}
use Rattle.run_order.proofs.Blindness.{version_same}
use Rattle.run_order.specs.Trace.{Begins}
use Rattle.run_order.specs.Written.{written}
use Rattle.run_order.proofs.Written.{none_before, none_written, all_written, call_written}

-- ---- each processor's events stand in the placed history, in its order

-- a processor's events in a history, the newest first
abbrev pub own : ℕ → List Entry → List Event
own actor history = map (λ entry. entry.event) (entries_by actor history)

looks_own : (v actor c : ℕ) (items : List Done) (final : List Entry)
    → onto (map event_of (if c == actor then left_after v items else [])) (own c (with_looks v actor items final))
    ≡ onto (map event_of (if c == actor then items else [])) (own c final)
unfolding with_looks left_after
looks_own v actor c (Looked kind addr smm look ∷ items) final =
    let entry : Entry = next_entry final actor (LookAt kind addr smm) (Saw look) in
    grind (arith, nat_tests, looks_own v actor c items (entry ∷ final))
looks_own v actor c _ final = refl

all_own : (v : ℕ) (rests : List (List Done)) (first c : ℕ) (final : List Entry)
    → onto (map event_of (done_by first c (all_left v rests))) (own c (with_all_looks v first rests final)) ≡ onto
    (map event_of (done_by first c rests)) (own c final)
unfolding with_all_looks done_by
all_own v [] first c final = refl
all_own v (items ∷ rests) first c final =
    let looked : List Entry = with_looks v first items final in let here = looks_own v first c items final in
    let was = none_before (first + 1) c rests in let now = none_before (first + 1) c (all_left v rests) in
    grind (arith, nat_tests, here, was, now, all_own v rests (first + 1) c looked)

-- a call takes a processor's first statement
call_own : (c : ℕ) (new : Entry) (looked : List Entry) (left : List (List Done)) → new.actor < length left
    → map event_of (done_by 0 new.actor left) ≡ new.event ∷ map event_of (without_first (done_by 0 new.actor left))
    → onto (map event_of (done_by 0 c (passed 0 new.actor left))) (own c (new ∷ looked))
    ≡ onto (map event_of (done_by 0 c left)) (own c looked)
call_own c new looked left few events =
    let first = from_first left in let next : List Done = without_first (get_or left new.actor []) in
    let there = get_or-set_other left new.actor c next [] in let here = get_or-set_at left new.actor c next [] in
    grind (arith, nat_tests, events, first new.actor, first c, from_first (set left new.actor next) c, here, there)

-- ---- what holds of each processor's statements, where a call of the bus passes

-- K holds of each processor's statements, the lists being those of the processors from `first` on
abbrev pub Each : (ℕ → List Done → Type 0) → ℕ → List (List Done) → Type 0
Each K first rests = (k c : ℕ) → c ≡ first + k → k < length rests → K c (get_or rests k [])

each_cons : (K : ℕ → List Done → Type 0) (first : ℕ) (items : List Done) (rests : List (List Done))
    → K first items → Each K (first + 1) rests → Each K first (items ∷ rests)
each_cons K first items rests head tail zero c is less = let here : c ≡ first = omega (arith, is) in rw here head
each_cons K first items rests head tail (suc k) c is less = tail k c (omega (arith, is)) (omega (arith, less))

-- one has done what it did first, and the others are as they were
passed_each : (K L : ℕ → List Done → Type 0) (actor : ℕ) (rests : List (List Done)) →
    ((items : List Done) → K actor items → L actor (without_first items)) →
    ((a : ℕ) (items : List Done) → a ≢ actor → K a items → L a items) → Each K 0 rests → Each L 0 (passed 0 actor rests)
passed_each K L actor rests own others each k c is less =
    let next : List Done = without_first (get_or rests actor []) in let size = length-set rests actor next in
    let here = get_or-set_at rests actor k next [] in let there = get_or-set_other rests actor k next [] in
    grind (arith, nat_tests, from_first rests actor, size, here, there, own, others, each k c is, each actor actor)

none_at : (rests : List (List Done)) (c : ℕ) → Each (λ _ rest. rest ≡ []) 0 rests → done_by 0 c rests ≡ []
none_at rests c each = grind (arith, from_first rests c, each c c, get_or_past)

-- there are as many processors when one has done its call
count_passed : (v actor : ℕ) (rests : List (List Done)) → length (passed 0 actor (all_left v rests)) ≡ length rests
count_passed v actor rests = grind (arith, from_first (all_left v rests) actor, length-set, length-map)

-- ---- where a look that comes next is in its place: what comes last

-- looks of processors below this one
abbrev pub AreLower : ℕ → List Entry → Type 0
AreLower first [] = Unit {0}
AreLower first (entry ∷ looks) = (is_look entry.event ≡ true) × (entry.actor < first) × AreLower first looks

-- the last entry is no look
abbrev pub EndsBare : List Entry → Type 0
EndsBare [] = Unit {0}
EndsBare (entry ∷ before) = is_look entry.event ≡ false

lower_out : (actor : ℕ) (looks since : List Entry) → AreLower actor looks → EndsBare since
    → without_lower actor (looks ++ since) ≡ since
lower_out actor [] since lower ends = grind arith
lower_out actor (entry ∷ looks) since lower ends =
    grind (arith, nat_tests, lower.0, lower.1, lower_out actor looks since lower.2 ends)

lower_on : (first : ℕ) (looks : List Entry) → AreLower first looks → AreLower (first + 1) looks
lower_on first [] lower = tt
lower_on first (entry ∷ looks) lower = (lower.0, omega (arith, lower.1), lower_on first looks lower.2)

call_in_place : (setup : Setup) (history before : List Entry) (actor : ℕ) (event : Event) (reply : Reply)
    → is_look event ≡ false → IsInPlace setup history before actor event reply
call_in_place setup history before actor event reply not = grind arith

own_place : (setup : Setup) (history : List Entry) (n : ℕ) (entry : Entry) (before : List Entry)
    → IsPlaceOf setup history entry.actor n (without_lower entry.actor (entry ∷ before))
own_place setup history n entry before = grind (arith, nat_tests)

-- ---- the placed history

-- `final` is a history and the entries `since` then, and has the bus's history `before`
pub record Holds (setup : Setup) (history before since final : List Entry) : Type 0 where
  pub is : final ≡ since ++ history
  pub legal : IsLegal setup final
  pub bare : bare final ≡ bare before
  pub places : AreInPlace setup history since

-- the same with looks of processors below `first` after the entries `since`
record HaveLooks (setup : Setup) (history before since : List Entry) (first : ℕ) (final : List Entry) : Type 0 where
  pub looks : List Entry
  pub holds : Holds setup history before (looks ++ since) final
  pub lower : AreLower first looks

-- the phase was placed after `final`, and gave `all`
pub record HasPlaced (setup : Setup) (history whole later : List Entry) (rests : List (List Done))
    (final all : List Entry) : Type 0 where
  pub added : List Entry
  pub holds : Holds setup history whole added all
  pub own : (c : ℕ) → own c all ≡ onto (map event_of (done_by 0 c rests)) (own c final)
  pub mine : (c : ℕ) → entries_by c all ≡ written c (done_by 0 c rests) (entries_by c later) (entries_by c final)

bare_bus : (entry : Entry) (before final : List Entry) → bare final ≡ bare before
    → bare (next_entry final entry.actor entry.event entry.reply ∷ final) ≡ bare (entry ∷ before)
unfolding bare
bare_bus entry before final same = grind (arith, nat_tests, same)

-- what a processor has still to do, where a look that is due is in its place after the entries `since`
abbrev pub Stands : Setup → (whole history before since : List Entry) → ℕ → List Done → Type 0
Stands setup whole history before since actor items =
    Waits setup whole before actor items × Late (version_of setup before) items
    × FirstLook (λ n. n ≤ version_of setup before → IsPlaceOf setup history actor n since) items

-- and where no look is due
abbrev Rests : Setup → (whole before : List Entry) → ℕ → List Done → Type 0
Rests setup whole before actor items =
    Waits setup whole before actor items × Late (version_of setup before + 1) items

module _ (blind : AnswersAreBlind) (setup : Setup) (whole history : List Entry) where
  module _ (before since : List Entry) (begins : Begins before whole) (ends : EndsBare since) where
    with_looks_hold : (actor : ℕ) (items : List Done) (final : List Entry)
        (have : HaveLooks setup history before since (actor + 1) final) → Waits setup whole before actor items
        → Late (version_of setup before) items → FirstLook (λ n. n ≤ version_of setup before
        → IsPlaceOf setup history actor n (without_lower actor (have.looks ++ since))) items
        → HaveLooks setup history before since (actor + 1) (with_looks (version_of setup before) actor items final)
        × Rests setup whole before actor (left_after (version_of setup before) items)
    unfolding with_looks left_after bare
    with_looks_hold actor [] final have waits late first = (have, (waits, tt))
    with_looks_hold actor (Went version event ∷ items) final have waits late first = (have, (waits, tt))
    with_looks_hold actor (Looked kind addr smm look ∷ items) final have waits late first =
        let h = have.holds in let f = waits.follows in
        let entry : Entry = next_entry final actor (LookAt kind addr smm) (Saw look) in
        let rest : Waits setup whole before actor items =
        record { from = waits.from; low = look.version; mine = waits.mine; follows = f.3 } in
        elim (cases_Bool (nat_le look.version (version_of setup before))) [
          | inl is ↦
              let low : look.version ≤ version_of setup before = grind (arith, nat_tests) in
              let answer = f.2 before begins (omega (arith, low, late)) in let next : IsNext setup final entry =
              record { number = refl; answer = blind setup final before h.bare entry.event entry.reply answer } in
              let here = first low in
              let holds : Holds setup history before (entry ∷ have.looks ++ since) (entry ∷ final) =
              grind (arith, h, next, here) in
              rw is (with_looks_hold actor items (entry ∷ final)
              (record { looks = entry ∷ have.looks; holds = holds; lower = (refl, omega arith, have.lower) }) rest
              (late_by rest late) (first_all _ (λ n due. own_place setup history n entry (have.looks ++ since)) items))
          | inr not ↦ rw not (have, (waits, grind (arith, nat_tests)))
        ]

    all_looks_hold : (rests : List (List Done)) (first : ℕ) (final : List Entry)
        → HaveLooks setup history before since first final → Each (Stands setup whole history before since) first rests
        → ((last : ℕ) × HaveLooks setup history before since last
        (with_all_looks (version_of setup before) first rests final))
        × Each (Rests setup whole before) first (all_left (version_of setup before) rests)
    unfolding with_all_looks
    all_looks_hold [] first final have each = ((first, have), λ k c is less. absurd (omega (arith, less)))
    all_looks_hold (items ∷ rests) first final have each =
        let v : ℕ = version_of setup before in let stands = each 0 first (omega arith) (omega arith) in
        let one = with_looks_hold first items final
        (record { looks = have.looks; holds = have.holds; lower = lower_on first have.looks have.lower }) stands.0
        stands.1 (rw (lower_out first have.looks since have.lower ends) stands.2) in
        let more = all_looks_hold rests (first + 1) (with_looks v first items final) one.0
        (λ k c is less. each (suc k) c (omega (arith, is)) (omega (arith, less))) in
        (more.0, each_cons (Rests setup whole before) first (left_after v items) (all_left v rests) one.1 more.1)

  pub placed_holds : (later before : List Entry) (rests : List (List Done)) (final since : List Entry) → EndsBare since
      → Holds setup history before since final → whole ≡ onto later before → IsLegal setup whole
      → All (λ e. e.actor < length rests) later → Each (Stands setup whole history before since) 0 rests
      → HasPlaced setup history whole later rests final (placed (version_of setup before) later rests final)
  unfolding placed
  placed_holds [] before rests final since ends holds is legal few each =
      let v : ℕ = version_of setup before in
      let here = all_looks_hold before since ([], is) ends rests 0 final
      (record { looks = []; holds = holds; lower = tt }) each in
      let none : (c : ℕ) → done_by 0 c (all_left v rests) ≡ [] = λ c. none_at (all_left v rests) c (λ k a at less.
      let rests = here.1 k a at less in none_left setup whole a before _ is rests.0 rests.1) in
      let h = here.0.1.holds in
      record {
        added = here.0.1.looks ++ since;
        holds = record { is = h.is; legal = h.legal; bare = h.bare ∙ ap bare (sym is); places = h.places };
        own = λ c. ap (λ (items : List Done). onto (map event_of items) (own c (with_all_looks v 0 rests final)))
            (sym (none c)) ∙ all_own v rests 0 c final;
        mine = λ c. sym (none_written c (entries_by c (with_all_looks v 0 rests final)))
            ∙ (ap (λ (items : List Done). written c items [] (entries_by c (with_all_looks v 0 rests final)))
            (sym (none c)) ∙ all_written v rests 0 c [] final);
      }
  placed_holds (entry ∷ later) before rests final since ends holds is legal few each =
      let v : ℕ = version_of setup before in let v' : ℕ = version_of setup (entry ∷ before) in
      let left : List (List Done) = all_left v rests in let looked : List Entry = with_all_looks v 0 rests final in
      let new : Entry = next_entry looked entry.actor entry.event entry.reply in
      let begins : Begins (entry ∷ before) whole = rw is (onto_begins later (entry ∷ before)) in
      let here = all_looks_hold before since (begins_before entry before whole begins) ends rests 0 final
      (record { looks = []; holds = holds; lower = tt }) each in
      let have = here.0.1 in let front : List Entry = have.looks ++ since in
      let within : entry.actor < length left = rw (length-map rests (left_after v)) (few 0 entry (omega arith)) in
      let call = λ (items : List Done) (rests : Rests setup whole before entry.actor items).
      next_call setup whole entry before items begins rests.0 rests.1 in
      let head : IsNextCall setup whole entry before (done_by 0 entry.actor left) =
      rw (from_first left entry.actor).0 (call (get_or left entry.actor [])
      (here.1 entry.actor entry.actor (omega arith) within)) in
      let was : IsNext setup before entry = (legal_front setup later (entry ∷ before) (rw is at legal)).0 in
      let same = bare_bus entry before looked have.holds.bare in let entered : IsNext setup looked new =
      record { number = refl; answer = blind setup looked before have.holds.bare entry.event entry.reply was.answer } in
      let old_version : version_of setup (front ++ history) ≡ v =
      ap (version_of setup) (sym have.holds.is) ∙ version_same setup looked before have.holds.bare in
      let new_version : version_of setup (new ∷ front ++ history) ≡ v' =
      ap (λ (h : List Entry). version_of setup (new ∷ h)) (sym have.holds.is)
      ∙ version_same setup (new ∷ looked) (entry ∷ before) same in
      let step = version_step setup entry before in
      let after = passed_each (Rests setup whole before) (Stands setup whole history (entry ∷ before) (new ∷ front))
      entry.actor left
      (λ items rests. let h = call items rests in
      (h.rest, h.late, first_all _ (λ n due. inl refl) (without_first items)))
      (λ a items other rests. let w = rests.0 in let mine : entries_by a (entry ∷ before) ≡ entries_by a w.from =
      grind (arith, nat_tests, w.mine, other) in (
        record { from = w.from; low = w.low; mine = mine; follows = w.follows },
        first_goes _ _ (λ n late. omega (arith, late, step)) items rests.1,
        first_goes _ _ (λ n late due. inr (record {
          fewer = omega (arith, late, old_version);
          count_is = omega (arith, late, due, step, new_version);
        })) items rests.1,
      )) here.1 in
      let rest = placed_holds later (entry ∷ before) (passed 0 entry.actor left) (new ∷ looked) (new ∷ front) head.call
      (record {
        is = ap (λ (h : List Entry). new ∷ h) have.holds.is;
        legal = (entered, have.holds.legal);
        bare = same;
        places = (call_in_place setup history front entry.actor entry.event entry.reply head.call, have.holds.places);
      }) is legal (rw (count_passed v entry.actor rests) (λ k d less. few (suc k) d (omega (arith, less)))) after in
      rw (head.version_is v) (record {
        added = rest.added;
        holds = rest.holds;
        own = λ c. rest.own c ∙ (call_own c new looked left within head.events ∙ all_own v rests 0 c final);
        mine = λ c. rest.mine c
            ∙ (call_written c entry looked left later within head.goes
            ∙ all_written v rests 0 c (entries_by c (entry ∷ later)) final);
      })
