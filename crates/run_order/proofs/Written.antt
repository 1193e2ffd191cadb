-- Each processor's entries in the placed history are what it did.
use Rattle.std.proofs.Common.{◌≡◌, ℕ, ◌+◌, ◌<◌, ◌==◌, List, [], ◌∷◌, length, refl, arith, if◌then◌else◌, set, get_or}
use Rattle.std.proofs.Common.{get_or-set_other}
use Rattle.board_prelude.proofs.{nat_tests, get_or-set_at, Saw, Entry, entries_by, next_entry}
use Rattle.board_spec.specs.declared.event.Event.TheVariants.{Look as LookAt}
use Rattle.run_order.specs.declared.done.Done.{Done}
use Rattle.run_order.specs.declared.done.Done.TheVariants.{Looked, Went}
use Rattle.run_order.specs.Placing.{with_looks, left_after, with_all_looks, all_left, without_first, passed, done_by}
use Rattle.run_order.specs.Written.{written}
use Rattle.run_order.proofs.Counts.{from_first}
use Rattle.run_order.proofs.Fitting.{GoesFirst}

-- where nothing is left, none is added
pub none_written : (c : ℕ) (own : List Entry) → written c [] [] own ≡ own
unfolding written
none_written c own = refl

looks_written : (v actor c : ℕ) (items : List Done) (calls final : List Entry)
    → written c (if c == actor then left_after v items else []) calls (entries_by c (with_looks v actor items final))
    ≡ written c (if c == actor then items else []) calls (entries_by c final)
unfolding with_looks left_after written
looks_written v actor c (Looked kind addr smm look ∷ items) calls final =
    let entry : Entry = next_entry final actor (LookAt kind addr smm) (Saw look) in
    grind (arith, nat_tests, looks_written v actor c items calls (entry ∷ final))
looks_written v actor c _ calls final = refl

pub none_before : (first c : ℕ) (rests : List (List Done)) → c < first → done_by first c rests ≡ []
unfolding done_by
none_before first c [] less = refl
none_before first c (items ∷ rests) less = grind (arith, nat_tests, none_before (first + 1) c rests)

-- looks that are due move from what a processor has still to do to its entries
pub all_written : (v : ℕ) (rests : List (List Done)) (first c : ℕ) (calls final : List Entry)
    → written c (done_by first c (all_left v rests)) calls (entries_by c (with_all_looks v first rests final))
    ≡ written c (done_by first c rests) calls (entries_by c final)
unfolding with_all_looks done_by written
all_written v [] first c calls final = refl
all_written v (items ∷ rests) first c calls final =
    let looked : List Entry = with_looks v first items final in let here = looks_written v first c items calls final in
    let was = none_before (first + 1) c rests in let now = none_before (first + 1) c (all_left v rests) in
    grind (arith, nat_tests, here, was, now, all_written v rests (first + 1) c calls looked)

first_written : (entry : Entry) (looked later : List Entry) (items : List Done) → GoesFirst items
    → written entry.actor (without_first items) (entries_by entry.actor later)
    (next_entry looked entry.actor entry.event entry.reply ∷ entries_by entry.actor looked)
    ≡ written entry.actor items (entries_by entry.actor (entry ∷ later)) (entries_by entry.actor looked)
unfolding written
first_written entry looked later [] goes = elim goes [ ]
first_written entry looked later (Looked _ _ _ _ ∷ items) goes = elim goes [ ]
first_written entry looked later (Went version event ∷ items) goes = grind (arith, nat_tests)

-- and so does a call
pub call_written : (c : ℕ) (entry : Entry) (looked : List Entry) (left : List (List Done)) (later : List Entry)
    → entry.actor < length left → GoesFirst (done_by 0 entry.actor left)
    → written c (done_by 0 c (passed 0 entry.actor left)) (entries_by c later)
    (entries_by c (next_entry looked entry.actor entry.event entry.reply ∷ looked))
    ≡ written c (done_by 0 c left) (entries_by c (entry ∷ later)) (entries_by c looked)
call_written c entry looked left later few goes =
    let first = from_first left in let next : List Done = without_first (get_or left entry.actor []) in
    let there = get_or-set_other left entry.actor c next [] in let here = get_or-set_at left entry.actor c next [] in
    let own = first_written entry looked later (done_by 0 entry.actor left) goes in
    grind (arith, nat_tests, own, first entry.actor, first c, from_first (set left entry.actor next) c, here, there)
