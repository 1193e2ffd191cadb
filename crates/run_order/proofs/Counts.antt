-- How many looks there are, and how many entries each has.
use Rattle.std.proofs.Common.{◌≡◌, ℕ, zero, suc, ◌+◌, ◌≤◌, List, [], ◌∷◌, map, get_or, set, refl, ap, arith, ◌-◌, ◌^◌}
use Rattle.std.proofs.Common.{◌<◌, ◌++◌, length, take, All, ◌≢◌, ◌∙◌, slice_index, reverse}
use Rattle.board_prelude.proofs.{nat_tests, take_more, map-append, length-map, get_or-set_other, reverse-append}
use Rattle.board_prelude.proofs.{length-reverse, get_or-set_at, All-cons, Entry, entries_by}
use Rattle.run_order.specs.declared.done.Done.{Done}
use Rattle.run_order.specs.Placing.{done_by, without_first, passed}
use Rattle.run_order.specs.Room.{looks_in, all_looks_in, Order, IsOrder}
use Rattle.run_order.specs.Over.{IsPlacedBelow, entry_of, over}
use Rattle.std.proofs.lemmas.List.Sums.{length-filter, count_by-le-length}
use Rattle.run_order.specs.declared.entry.RunEntry.{RunEntry}
use Rattle.run_order.proofs.Histories.{within_more}

-- ---- what a processor did, by its place among the lists

at_place : (rests : List (List Done)) (first k : ℕ) → (done_by first (first + k) rests ≡ get_or rests k [])
    × (passed first (first + k) rests ≡ set rests k (without_first (get_or rests k [])))
unfolding done_by passed
at_place [] first k = (refl, refl)
at_place (done ∷ rests) first zero = grind (arith, nat_tests)
at_place (done ∷ rests) first (suc k) = grind (arith, nat_tests, at_place rests (first + 1) k)

-- the same, counted from the first processor
pub from_first : (rests : List (List Done)) (k : ℕ) → (done_by 0 k rests ≡ get_or rests k [])
    × (passed 0 k rests ≡ set rests k (without_first (get_or rests k [])))
from_first rests k = let plus : 0 + k ≡ k = omega arith in rw plus at (at_place rests 0 k)

pub first_is_one : (done : List Done) → looks_in (without_first done) ≤ looks_in done
first_is_one done = grind arith

-- without what one did first, there are no more looks
pub no_more_looks : {X : Type 0} (f : X → List Done) (xs : List X) (k : ℕ) (x none : X)
    → f x ≡ without_first (f (get_or xs k none)) → all_looks_in (map f (set xs k x)) ≤ all_looks_in (map f xs)
no_more_looks f [] k x none is = omega arith
no_more_looks f (y ∷ ys) zero x none is = omega (arith, ap looks_in is, first_is_one (f y))
no_more_looks f (y ∷ ys) (suc k) x none is = omega (arith, no_more_looks f ys k x none is)

-- ---- how many looks there are, and how many entries each has

pub looks_append : (xs ys : List Done) → looks_in (xs ++ ys) ≡ looks_in xs + looks_in ys
looks_append [] ys = omega arith
looks_append (one ∷ xs) ys = grind (arith, looks_append xs ys)

-- one more statement
pub looks_next : (xs : List Done) (k : ℕ) (d : Done) (count one : ℕ) → k < length xs → count ≡ looks_in (take k xs) →
    one ≡ looks_in (get_or xs k d ∷ []) → count + one ≡ looks_in (take (k + 1) xs)
looks_next xs k d count one less count_is one_is = grind (arith, take_more xs k d less, looks_append (take k xs))

count_append : (xs ys : List (List Done)) → all_looks_in (xs ++ ys) ≡ all_looks_in xs + all_looks_in ys
count_append [] ys = omega arith
count_append (x ∷ xs) ys = let more = count_append xs ys in omega (arith, more)

-- one more of the lists counts
pub count_next : {X : Type 0} (f : X → List Done) (xs : List X) (k : ℕ) (d : X) → k < length xs →
    all_looks_in (map f (take (k + 1) xs)) ≡ all_looks_in (map f (take k xs)) + looks_in (f (get_or xs k d))
count_next f xs k d less =
    grind (arith, take_more xs k d less, map-append f (take k xs), count_append (map f (take k xs)))

-- a list of them is no longer than all
pub one_of : {X : Type 0} (f : X → List Done) (xs : List X) (k : ℕ) (d : X) → k < length xs
    → looks_in (f (get_or xs k d)) ≤ all_looks_in (map f xs)
one_of f [] k d less = absurd (omega (arith, less))
one_of f (x ∷ xs) zero d less = omega arith
one_of f (x ∷ xs) (suc k) d less = omega (arith, one_of f xs k d (omega (arith, less)))

-- a list takes the place of another
pub count_set : (xs : List (List Done)) (k : ℕ) (y : List Done) → k < length xs
    → all_looks_in (set xs k y) + looks_in (get_or xs k []) ≡ all_looks_in xs + looks_in y
count_set [] k y less = absurd (omega (arith, less))
count_set (x ∷ xs) zero y less = omega arith
count_set (x ∷ xs) (suc k) y less = let more = count_set xs k y (omega (arith, less)) in omega (arith, more)

-- a processor's next number is small
pub number_fits : {order : Order} {capacity : ℕ} {counts : List ℕ} (actor place : ℕ) → place ≡ actor → actor < 8
    → IsOrder order capacity counts → slice_index counts place + order.spare < 2 ^ 32
number_fits {order} actor place same below kept =
    grind (arith, kept.counted [] actor below, kept, length-filter, count_by-le-length, length-map)

counts_more : (counts : List ℕ) (actor other : ℕ) (entry : Entry) (before : List Entry) → length counts ≡ 8 →
    other < 8 → entry.actor ≡ actor → slice_index counts other ≡ length (entries_by other before) →
    slice_index (set counts actor (slice_index counts actor + 1)) other ≡ length (entries_by other (entry ∷ before))
counts_more counts actor other entry before eight small own was =
    grind (arith, nat_tests, get_or-set_at, get_or-set_other)

-- an entry more
pub order_more : {spare bus capacity : ℕ} {counts : List ℕ} (items items' : List RunEntry) (capacity' actor place : ℕ)
    (entry : RunEntry) (bus' : ℕ)
    → IsOrder (record { entries = reverse items; spare = spare; bus = bus }) capacity counts
    → items' ≡ items ++ entry ∷ [] → capacity ≤ capacity' → length counts ≡ 8
    → place ≡ actor → actor < 8 → ((of_bus : List Entry) → (entry_of of_bus entry).actor ≡ actor)
    → IsPlacedBelow bus' entry → bus ≤ bus' → bus' ≤ bus + 1 → 1 ≤ spare
    → IsOrder (record { entries = reverse items'; spare = spare - 1; bus = bus' }) capacity'
    (set counts place (slice_index counts place + 1))
order_more {spare} {bus} {capacity} {counts} items items' capacity' actor place entry bus' kept more wider eight same
    below own within least next some =
    let old : List RunEntry = reverse items in
    let is : reverse items' ≡ entry ∷ old = ap reverse more ∙ reverse-append items (entry ∷ []) in
    let all = All-cons (IsPlacedBelow bus') entry old within
    (λ k d less. within_more bus bus' least (get_or old k d) (kept.within k d less)) in
    let counted = λ (of_bus : List Entry) (other : ℕ) (small : other < 8). counts_more counts actor other
    (entry_of of_bus entry) (over of_bus old) eight small (own of_bus) (kept.counted of_bus other small) in
    grind (arith, is, same, all, counted, kept)

-- room for more
pub order_reserved : {spare bus capacity : ℕ} {counts : List ℕ} (items items' : List RunEntry) (capacity' n : ℕ)
    → IsOrder (record { entries = reverse items; spare = spare; bus = bus }) capacity counts → items' ≡ items
    → length items + n ≤ capacity' → length items + n < 2 ^ 32
    → IsOrder (record { entries = reverse items'; spare = n; bus = bus }) capacity' counts
order_reserved items items' capacity' n kept same room few =
    let size = length-reverse items in rw same (grind (arith, size, kept))

-- ---- where nobody looked

-- what a processor did has no look, where none of it is one
pub none_looked : (done : List Done) → All (λ one. looks_in (one ∷ []) ≢ 1) done → looks_in done ≡ 0
none_looked [] none = refl
none_looked (one ∷ done) none =
    let rest = none_looked done (λ k d less. none (suc k) d (omega (arith, less))) in
    grind (arith, rest, none 0 one (omega arith))

pub nobody_looked : {X : Type 0} (f : X → List Done) (works : List X) → All (λ work. looks_in (f work) ≡ 0) works
    → all_looks_in (map f works) ≡ 0
nobody_looked f [] none = refl
nobody_looked f (work ∷ works) none =
    let rest = nobody_looked f works (λ k d less. none (suc k) d (omega (arith, less))) in
    omega (arith, none 0 work (omega arith), rest)
