-- Lists in which no look is due.
use Rattle.std.proofs.Common.{◌≡◌, ℕ, zero, suc, ◌+◌, ◌<◌, ◌≤◌, List, [], ◌∷◌, length, All, drop, get_or, map, set}
use Rattle.std.proofs.Common.{refl, sym, ap, arith, take, ◌++◌, reverse, ◌≢◌}
use Rattle.board_prelude.proofs.{nat_tests, length-map, get_or-map, map-set, get_or-set_other, drop_more, drop_all}
use Rattle.board_prelude.proofs.{Entry, next_entry, take_more, reverse-append, take-append-drop, Setup, IsLegal}
use Rattle.board_prelude.proofs.{get_or-set_at}
use Rattle.run_order.specs.declared.done.Done.{Done}
use Rattle.run_order.specs.declared.done.Done.TheVariants.{Looked}
use Rattle.run_order.specs.Placing.{with_looks, left_after, with_all_looks, all_left, without_first, noted, placed}
use Rattle.run_order.specs.Placing.{done_by, passed}
use Rattle.run_order.specs.Room.{looks_in, all_looks_in}
use Rattle.run_order.specs.Settled.{IsNotDue, IsSettled, IsSettledBut}
use Rattle.run_order.proofs.Counts.{count_set, from_first, first_is_one}
use Rattle.run_order.proofs.Histories.{onto, onto_is, legal_front}

-- ---- what one processor did

pub not_due_left : (version : ℕ) (done : List Done) → IsNotDue version (left_after version done)
unfolding left_after
not_due_left version (Looked kind addr smm look ∷ done) = grind (arith, nat_tests, not_due_left version done)
not_due_left version _ = tt

not_due : (version actor : ℕ) (done : List Done) (history : List Entry) → IsNotDue version done
    → (with_looks version actor done history ≡ history) × (left_after version done ≡ done)
unfolding with_looks left_after
not_due version actor done history not = grind (arith, nat_tests)

-- ---- what all did

pub left_is_settled : (version : ℕ) (rests : List (List Done)) → IsSettled version (all_left version rests)
left_is_settled version [] k = tt
left_is_settled version (done ∷ rests) zero = not_due_left version done
left_is_settled version (done ∷ rests) (suc k) = left_is_settled version rests k

-- where no look is due, none enters
pub settled : (version first : ℕ) (rests : List (List Done)) (history : List Entry) → IsSettled version rests
    → (with_all_looks version first rests history ≡ history) × (all_left version rests ≡ rests)
unfolding with_all_looks
settled version first [] history so = (refl, refl)
settled version first (done ∷ rests) history so =
    let one = not_due version first done history (so 0) in
    let more = settled version (first + 1) rests history (λ k. so (suc k)) in grind (arith, one, more)

-- where none is due before the processor at k, its looks may enter first
looks_first : (version first k actor : ℕ) (rests : List (List Done)) (history : List Entry) → actor ≡ first + k
    → ((j : ℕ) → j < k → IsNotDue version (get_or rests j []))
    → (with_all_looks version first (set rests k (left_after version (get_or rests k [])))
    (with_looks version actor (get_or rests k []) history) ≡ with_all_looks version first rests history)
    × (all_left version (set rests k (left_after version (get_or rests k []))) ≡ all_left version rests)
unfolding with_all_looks with_looks
looks_first version first k actor [] history is so = (refl, refl)
looks_first version first zero actor (done ∷ rests) history is so =
    let looked : List Entry = with_looks version first done history in
    let same = not_due version first (left_after version done) looked (not_due_left version done) in
    let here : actor ≡ first = omega (arith, is) in rw here (grind (arith, same))
looks_first version first (suc k) actor (done ∷ rests) history is so =
    let looked : List Entry = with_looks version actor (get_or rests k []) history in
    let not = so 0 (omega arith) in let one = not_due version first done history not in
    let then = not_due version first done looked not in
    let more = looks_first version (first + 1) k actor rests history (omega (arith, is))
    (λ j less. so (suc j) (omega (arith, less))) in
    grind (arith, one, then, more)

-- the looks of the processor at k entered, so that these lists are left and there is this history now
pub record Enter (version k : ℕ) (rests left : List (List Done)) (before now : List Entry) (spare spare' : ℕ) : Type 0
  where
    pub placed : with_all_looks version 0 left now ≡ with_all_looks version 0 rests before
    pub left_is : all_left version left ≡ all_left version rests
    pub others : (j : ℕ) → (j ≢ k → IsNotDue version (get_or rests j [])) → IsNotDue version (get_or left j [])
    pub room : spare' + all_looks_in rests ≡ spare + all_looks_in left

pub look_at : {X : Type 0} {version : ℕ} {before now : List Entry} {spare spare' : ℕ} (k actor : ℕ) (f : X → List Done)
    (xs : List X) (x none : X) → k ≡ actor → k < length xs
    → ((j : ℕ) → j < k → IsNotDue version (get_or (map f xs) j []))
    → f x ≡ left_after version (f (get_or xs k none)) → now ≡ with_looks version actor (f (get_or xs k none)) before
    → spare' + looks_in (f (get_or xs k none)) ≡ spare + looks_in (f x)
    → Enter version k (map f xs) (map f (set xs k x)) before now spare spare'
look_at {version = version} {before = before} k actor f xs x none is less so left now_is spare_is =
    let looks = looks_first version 0 k actor (map f xs) before in let at = get_or-map f xs k none [] less in
    let here = map-set f xs k x in
    grind (arith, length-map xs f, at, looks, here, count_set, get_or-set_at, get_or-set_other, not_due_left)

-- ---- one entry of the bus after another

pub looked_again : (version : ℕ) (later : List Entry) (rests : List (List Done)) (history : List Entry)
    → placed version later (all_left version rests) (with_all_looks version 0 rests history)
    ≡ placed version later rests history
unfolding placed
looked_again version [] rests history = (settled version 0 (all_left version rests)
    (with_all_looks version 0 rests history) (left_is_settled version rests)).0
looked_again version (entry ∷ later) rests history =
    let none = settled version 0 (all_left version rests) (with_all_looks version 0 rests history)
    (left_is_settled version rests) in
    rw (none.0, none.1) refl

-- an entry enters, before which no look was due
pub next_placed : {X : Type 0} {i : ℕ} {now : List Entry} (version : ℕ) (later : List Entry) (f : X → List Done)
    (xs : List X) (x none : X) (version' place : ℕ) (next : List Entry) (d : Entry) → IsSettled version (map f xs)
    → i < length later → All (λ e. e.actor < length xs) later → place ≡ (get_or later i d).actor
    → version' ≡ noted version (f (get_or xs place none)) → f x ≡ without_first (f (get_or xs place none))
    → next ≡ next_entry now (get_or later i d).actor (get_or later i d).event (get_or later i d).reply ∷ now
    → placed version' (drop (i + 1) later) (map f (set xs place x)) next ≡ placed version (drop i later) (map f xs) now
unfolding placed
next_placed version later f xs x none version' place next d first second third fourth fifth sixth seventh =
    grind (arith, nat_tests, from_first, drop_more, get_or-map, settled, map-set)

pub placed_last : (version i : ℕ) (later : List Entry) (rests : List (List Done)) (now : List Entry)
    → IsSettled version rests → length later ≤ i → placed version (drop i later) rests now ≡ now
unfolding placed
placed_last version i later rests now so past = rw (drop_all i later past) ((settled version 0 rests now so).0)

pub but_one : {X : Type 0} (f : X → List Done) (xs : List X) (x : X) (version version' place actor : ℕ)
    → IsSettled version (map f xs) → place ≡ actor → version' ≡ version
    → IsSettledBut version' actor (map f (set xs place x))
but_one f xs x version version' place actor so place_is version_is k other =
    grind (arith, map-set f xs place x, get_or-set_other (map f xs) place k (f x) [], so k)

-- ---- where nobody looked, the placed history is that of the bus

next_onto : (setup : Setup) (later before : List Entry) (entry : Entry) → IsLegal setup (onto (entry ∷ later) before)
    → next_entry before entry.actor entry.event entry.reply ≡ entry
next_onto setup later before entry legal =
    ap (λ (n : ℕ). record { actor = entry.actor; seq = n; event = entry.event; reply = entry.reply })
    (sym (legal_front setup later (entry ∷ before) legal).0.number)

none_settled : (version : ℕ) (rests : List (List Done)) → all_looks_in rests ≡ 0 → IsSettled version rests
none_settled version [] none k = grind (arith, nat_tests)
none_settled version (done ∷ rests) none zero = grind (arith, nat_tests)
none_settled version (done ∷ rests) none (suc k) =
    grind (arith, nat_tests, none_settled version rests (omega (arith, none)) k)

passed_fewer : (first actor : ℕ) (rests : List (List Done)) → all_looks_in (passed first actor rests) ≤ all_looks_in
    rests
unfolding passed
passed_fewer first actor [] = omega arith
passed_fewer first actor (done ∷ rests) =
    grind (arith, nat_tests, first_is_one done, passed_fewer (first + 1) actor rests)

-- the entries of the bus alone enter the history, as where nobody did anything
pub placed_alone : (version : ℕ) (later : List Entry) (rests : List (List Done)) (history : List Entry)
    → all_looks_in rests ≡ 0 → placed version later rests history ≡ placed 0 later [] history
unfolding placed with_all_looks done_by passed
placed_alone version [] rests history none = (settled version 0 rests history (none_settled version rests none)).0
placed_alone version (entry ∷ later) rests history none =
    let so = settled version 0 rests history (none_settled version rests none) in
    let rest = placed_alone (noted version (done_by 0 entry.actor rests)) later (passed 0 entry.actor rests) in
    grind (arith, so, passed_fewer 0 entry.actor rests, rest)

alone : (setup : Setup) (later history : List Entry) → IsLegal setup (onto later history)
    → placed 0 later [] history ≡ onto later history
unfolding placed with_all_looks done_by passed
alone setup [] history legal = refl
alone setup (entry ∷ later) history legal =
    rw (next_onto setup later history entry legal) (alone setup later (entry ∷ history) legal)

pub unlooked : (setup : Setup) (version : ℕ) (later : List Entry) (rests : List (List Done)) (history : List Entry)
    → all_looks_in rests ≡ 0
    → IsLegal setup (reverse later ++ history) → placed version later rests history ≡ reverse later ++ history
unlooked setup version later rests history none legal =
    grind (arith, onto_is later history, placed_alone version later rests history, alone setup later history)

-- ---- a history that begins as that of a bus

-- the next entry of the bus's, after the first `i`
pub begin_step : (setup : Setup) (entries : List Entry) (i : ℕ) (d : Entry) → IsLegal setup (reverse entries)
    → i < length entries → (history : List Entry) → history ≡ reverse (take i entries) → (next : List Entry)
    → next ≡ next_entry history (get_or entries i d).actor (get_or entries i d).event (get_or entries i d).reply ∷
    history → next ≡ reverse (take (i + 1) entries)
begin_step setup entries i d legal less history is next pushed =
    let entry : Entry = get_or entries i d in let front : List Entry = reverse (take i entries) in
    let later : List Entry = drop (i + 1) entries in let next = next_onto setup later front entry in
    let whole = take-append-drop i entries in let cut = drop_more entries i d less in
    let turned = reverse-append (take i entries) (entry ∷ later) in let onto = onto_is (entry ∷ later) front in
    let one = reverse-append (take i entries) (entry ∷ []) in
    grind (arith, whole, cut, turned, one, onto, next, take_more entries i d less)
