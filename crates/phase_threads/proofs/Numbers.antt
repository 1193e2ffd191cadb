-- Lists of jobs and of callers, by the numbers of their processors.
use Rattle.std.proofs.Common.{◌≡◌, ℕ, ◌+◌, ◌<◌, ◌≤◌, ◌==◌, List, [], ◌∷◌, ◌++◌, map, length, take, drop, All, refl, sym}
use Rattle.std.proofs.Common.{◌∙◌, ap, arith, reverse, slice_index_or, filter, Bool, true, false, set, slice_index, suc}
use Rattle.std.proofs.Common.{inl, inr, subst}
use Rattle.board_prelude.proofs.{Any, cases_lt, range_with_len, nat_tests, get_or-map, get_or_default, reverse-append}
use Rattle.board_prelude.proofs.{append-nil, take_all, drop_all, map-append, length-map, get_or-set_at}
use Rattle.board_prelude.proofs.{get_or-set_other, length-append, Entry, events_by}
use Rattle.board_prelude.specs.{Statement}
use Rattle.std.proofs.lemmas.List.FromFn.{get_or-range_with_len, length-range_with_len, map-range_with_len_more}
use Rattle.std.proofs.lemmas.List.Elements.{All-map}
use Rattle.phase_threads.specs.declared.jobs.Job.{Job}
use Rattle.phase_threads.specs.declared.worker.Work.{Work}
use Rattle.phase_threads.specs.Jobs.{AreDue, AreTold, pages_in}
use Rattle.phase_threads.specs.Works.{Page, page}
use Rattle.std.proofs.lemmas.List.Filters.{length-filter_more}
use Rattle.std.proofs.lemmas.List.Sums.{length-filter, count_by-le-length}
use Rattle.run_order.proofs.Histories.{all_turned}
use Rattle.std.proofs.lemmas.Simd.{map-map}

pub map_reverse : {X Y : Type 0} (f : X → Y) (xs : List X) → map f (reverse xs) ≡ reverse (map f xs)
map_reverse f [] = refl
map_reverse f (x ∷ xs) =
    ap (map f) (reverse-append (x ∷ []) xs)
    ∙ (map-append f (reverse xs) (x ∷ []) ∙ rw (map_reverse f xs) (sym (reverse-append (f x ∷ []) (map f xs))))

pub all_mapped : {X Y : Type 0} (f : X → Y) (P : Y → Type 0) (xs : List X) → All P (map f xs) → All (λ x. P (f x)) xs
all_mapped f P xs all = λ k d less. rw (get_or-map f xs k d (f d) less) at (all k (f d) (rw (length-map xs f) less))

pub same_lengths : {X Y Z : Type 0} (f : X → Z) (g : Y → Z) (xs : List X) (ys : List Y) → map f xs ≡ map g ys
    → length xs ≡ length ys
same_lengths f g xs ys e = sym (length-map xs f) ∙ (ap length e ∙ length-map ys g)

pub numbered_length : {X : Type 0} (f : X → ℕ) (xs : List X) (n : ℕ) → map f xs ≡ range_with_len 0 n → length xs ≡ n
numbered_length f xs n e = sym (length-map xs f) ∙ (ap length e ∙ length-range_with_len 0 n)

pub filter_all : {X : Type 0} (p : X → Bool) (xs : List X) → All (λ x. p x ≡ true) xs → filter p xs ≡ xs
filter_all p [] all = refl
filter_all p (x ∷ xs) all =
    rw (all 0 x (omega arith), filter_all p xs (λ k d less. all (suc k) d (omega (arith, less)))) refl

pub filter_none : {X : Type 0} (p : X → Bool) (xs : List X) → All (λ x. p x ≡ false) xs → filter p xs ≡ []
filter_none p [] none = refl
filter_none p (x ∷ xs) none =
    rw (none 0 x (omega arith)) (filter_none p xs (λ k d less. none (suc k) d (omega (arith, less))))

-- each stands at the place of its number
pub number_at : {X : Type 0} (f : X → ℕ) (xs : List X) (n : ℕ) → map f xs ≡ range_with_len 0 n → (k : ℕ) (d : X)
    → k < length xs → f (slice_index_or xs k d) ≡ k
number_at f xs n e k d less =
    grind (arith, numbered_length f xs n e, get_or-map f xs k d (f d) less, get_or-range_with_len 0 n k (f d))

pub numbers_below : {X : Type 0} (f : X → ℕ) (xs : List X) (n a : ℕ) → map f xs ≡ range_with_len 0 n
    → Any (λ x. f x ≡ a) xs → a < n
numbers_below f xs n a e any = grind (arith, number_at f xs n e any.0 any.1 any.2, numbered_length f xs n e)

pub same_numbers : {X : Type 0} (f : X → ℕ) (xs ys : List X) (a : ℕ) → map f ys ≡ map f xs → Any (λ x. f x ≡ a) xs
    → Any (λ x. f x ≡ a) ys
same_numbers f xs ys a e any =
    let less : any.0 < length ys = rw (same_lengths f f ys xs e) any.2 in
    let y = slice_index_or ys any.0 any.1 in
    let number : f y ≡ a = sym (get_or-map f ys any.0 any.1 (f any.1) less)
    ∙ rw e (get_or-map f xs any.0 any.1 (f any.1) any.2 ∙ (ap f any.3 ∙ any.4)) in
    (any.0, y, less, get_or_default ys any.0 y any.1 less, number)

-- what is told of each is told at the place of its number
pub by_number : {X Y : Type 0} (number : X → ℕ) (f : X → Y) (e : Y) (xs : List X) (n : ℕ)
    → map number xs ≡ range_with_len 0 n → All (λ x. slice_index_or (map f xs) (number x) e ≡ f x) xs
by_number number f e xs n numbers k d less =
    ap (λ (i : ℕ). slice_index_or (map f xs) i e) (number_at number xs n numbers k d less) ∙ get_or-map f xs k d e less

-- what holds of each one's number holds of each number
pub all_numbered : {X : Type 0} (number : X → ℕ) (P : ℕ → Type 0) (xs : List X) (first : ℕ)
    → All (λ x. P (number x)) xs → map number xs ≡ range_with_len first (length xs) → (n : ℕ) → first ≤ n
    → n < first + length xs → P n
all_numbered number P [] first all numbers n low high = absurd (omega (arith, low, high))
all_numbered number P (x ∷ xs) first all numbers n low high =
    let here : number x ≡ first = grind (arith, numbers) in
    let tail : map number xs ≡ range_with_len (first + 1) (length xs) = grind (arith, numbers) in
    elim (cases_lt first n) [
      | inl less ↦ all_numbered number P xs (first + 1) (λ k d few. all (suc k) d (omega (arith, few))) tail n
          (omega (arith, less)) (omega (arith, high))
      | inr past ↦ let is : number x ≡ n = omega (arith, here, low, past) in subst P is (all 0 x (omega arith))
    ]

-- as many statements as before
asked_by_pages : (works next : List Work) → pages_in next ≡ pages_in works
    → map (λ (work : Work). work.asked) next ≡ map (λ (work : Work). work.asked) works
asked_by_pages works next same =
    let count : Page → ℕ = λ p. p.1 in
    sym (map-map count page next) ∙ (ap (map count) same ∙ map-map count page works)

pub asked_again : (most : ℕ) (works next : List Work) → pages_in next ≡ pages_in works
    → All (λ work. work.asked ≤ most) works → All (λ work. work.asked ≤ most) next
asked_again most works next same all =
    all_mapped (λ (work : Work). work.asked) (λ n. n ≤ most) next
    (rw (asked_by_pages works next same) (All-map (λ n. n ≤ most) (λ (work : Work). work.asked) works all))

pub pages_length : (works next : List Work) → pages_in next ≡ pages_in works → length next ≡ length works
pages_length works next same = sym (length-map next page) ∙ (ap length same ∙ length-map works page)

-- the workers have written what they had
pub told_again : (own : ℕ → List Entry) (works next : List Work) → pages_in next ≡ pages_in works → AreTold own works
    → AreTold own next
told_again own works next same told actor less =
    ap (λ (ps : List Page). slice_index_or ps actor ([], 0)) same
    ∙ told actor (rw (pages_length works next same) at less)

-- what a slice of a whole list leaves of it
pub lent_back : {X : Type 0} (n : ℕ) (old now : List X) → n ≡ length old → length now ≡ length old
    → take n (now ++ drop (length now) old) ≡ now
lent_back n old now size same = grind (arith, drop_all (length now) old, append-nil now, take_all n now)

-- ---- how many statements each processor has in a phase

abbrev is_by : ℕ → Statement → Bool
is_by actor statement = statement.actor == actor

abbrev due_in : Work → ℕ
due_in work = work.due

abbrev count_in : List Statement → ℕ → ℕ
count_in phase actor = length (events_by actor phase)

pub few_by : (actor : ℕ) (phase : List Statement) → length (events_by actor phase) ≤ length phase
few_by actor phase = grind (arith, length-map, length-filter, count_by-le-length)

-- one statement more
pub counts_more : (counts : List ℕ) (phase : List Statement) (i : ℕ) (d : Statement) (actor other : ℕ)
    → length counts ≡ 256 → other < 256 → i < length phase
    → actor ≡ (slice_index_or phase i d).actor → slice_index counts other ≡ length (events_by other (take i phase))
    → slice_index (set counts actor (slice_index_or counts actor 0 + 1)) other ≡ length
    (events_by other (take (i + 1) phase))
counts_more counts phase i d actor other many small less own was =
    let more = length-filter_more (is_by other) phase i d less in
    grind (arith, nat_tests, more, length-map, get_or-set_at, get_or-set_other)

-- one processor more
pub due_more : (works : List Work) (work : Work) (phase : List Statement) (actor : ℕ) (next : List Work)
    → next ≡ works ++ work ∷ [] → length works ≡ actor
    → AreDue phase works → work.due ≡ length (events_by actor phase) → AreDue phase next
due_more works work phase actor next more size was own =
    let split = map-append due_in works (work ∷ []) in
    let last = map-range_with_len_more (count_in phase) 0 actor actor in
    grind (arith, ap length more, length-append works (work ∷ []), split, last)

same_each : {X : Type 0} (f g : X → ℕ) (xs : List X) → map f xs ≡ map g xs → All (λ x. f x ≡ g x) xs
same_each f g xs e k d less = grind (arith, get_or-map f xs k d 0 less, get_or-map g xs k d 0 less, e)

-- each job has the work of its own processor
pub due_by_number : (jobs : List Job) (works : List Work) (phase : List Statement) (n : ℕ)
    → map (λ (job : Job). job.work) (reverse jobs) ≡ works
    → map (λ (job : Job). job.cpu.number) (reverse jobs) ≡ range_with_len 0 n → length works ≡ n → AreDue phase works
    → All (λ job. job.work.due ≡ length (events_by job.cpu.number phase)) jobs
due_by_number jobs works phase n are_works numbers size due =
    let work : Job → Work = λ job. job.work in
    let number : Job → ℕ = λ job. job.cpu.number in
    let all : map (λ (job : Job). job.work.due) (reverse jobs) ≡ map (λ (job : Job). count_in phase job.cpu.number)
    (reverse jobs) =
    grind (arith, are_works, numbers, size, due, map-map due_in work, map-map (count_in phase) number) in
    all_turned (λ job. job.work.due ≡ length (events_by job.cpu.number phase)) jobs
    (same_each (λ (job : Job). job.work.due) (λ (job : Job). count_in phase job.cpu.number) (reverse jobs) all)
