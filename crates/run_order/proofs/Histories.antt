-- Beginnings of a history, and a processor's entries in it.
use Rattle.std.proofs.Common.{◌≡◌, ℕ, ◌+◌, ◌<◌, ◌≤◌, List, [], ◌∷◌, ◌++◌, length, refl, sym, ◌∙◌, ap, arith}
use Rattle.std.proofs.Common.{append_assoc, reverse, take, All, subst, get_or-take, suc}
use Rattle.board_prelude.proofs.{reverse-append, nat_tests, Entry, Setup, version_of, IsLegal, map_writes_of}
use Rattle.board_prelude.proofs.{entries_by, reverse-reverse, All-permutation}
use Rattle.std.proofs.lemmas.List.Sorted.{IsPermutation-reverse}
use Rattle.run_order.specs.Trace.{Begins}
use Rattle.run_order.specs.declared.entry.RunEntry.{RunEntry}
use Rattle.run_order.specs.Over.{IsPlacedBelow, entry_of, over}

-- what comes later, the oldest first, put before a list with the newest first
abbrev pub onto : {X : Type 0} → List X → List X → List X
onto [] before = before
onto (x ∷ later) before = onto later (x ∷ before)

pub onto_is : {X : Type 0} (later before : List X) → onto later before ≡ reverse later ++ before
onto_is [] before = refl
onto_is (x ∷ later) before = let turned = reverse-append (x ∷ []) later in
    grind (arith, turned, append_assoc (reverse later) (x ∷ []), onto_is later (x ∷ before))

pub legal_front : (setup : Setup) (later before : List Entry) → IsLegal setup (onto later before) → IsLegal setup before
legal_front setup [] before legal = legal
legal_front setup (entry ∷ later) before legal = (legal_front setup later (entry ∷ before) legal).1

-- what begins with a list that begins with another
pub begins_trans : {X : Type 0} (first middle last : List X) → (more : List X) × (middle ≡ more ++ first)
    → (more : List X) × (last ≡ more ++ middle) → (more : List X) × (last ≡ more ++ first)
begins_trans first middle last a b = (b.0 ++ a.0, rw (b.1, a.1) (sym (append_assoc b.0 a.0 first)))

pub begins_before : (entry : Entry) (before whole : List Entry) → Begins (entry ∷ before) whole → Begins before whole
begins_before entry before whole = begins_trans before (entry ∷ before) whole (entry ∷ [], refl)

pub onto_begins : (later before : List Entry) → Begins before (onto later before)
onto_begins [] before = ([], refl)
onto_begins (entry ∷ later) before = begins_before entry before (onto later (entry ∷ before))
    (onto_begins later (entry ∷ before))

-- an entry of the processor's own counts
own_counts : (actor : ℕ) (more : List Entry) (entry : Entry) (before : List Entry) → entry.actor ≡ actor
    → length (entries_by actor before) < length (entries_by actor (more ++ entry ∷ before))
own_counts actor [] entry before own = grind (arith, nat_tests)
own_counts actor (last ∷ more) entry before own = grind (arith, nat_tests, own_counts actor more entry before own)

pub own_later : (actor : ℕ) (entry : Entry) (before whole : List Entry) → Begins (entry ∷ before) whole
    → entry.actor ≡ actor → length (entries_by actor before) < length (entries_by actor whole)
own_later actor entry before whole b own = rw b.1 (own_counts actor b.0 entry before own)

-- two entries of a processor's in one history with as many of its entries before them are one
same : (actor : ℕ) (more others : List Entry) (left right : Entry) (before other : List Entry) →
    more ++ left ∷ before ≡ others ++ right ∷ other → left.actor ≡ actor → right.actor ≡ actor →
    length (entries_by actor before) ≡ length (entries_by actor other) → (left ≡ right) × (before ≡ other)
same actor [] [] left right before other e l r n = grind (arith, nat_tests, own_counts)
same actor [] (last ∷ others) left right before other e l r n = grind (arith, nat_tests, own_counts)
same actor (last ∷ more) [] left right before other e l r n = grind (arith, nat_tests, own_counts)
same actor (last ∷ more) (last' ∷ others) left right before other e l r n =
    grind (arith, nat_tests, own_counts, same actor more others left right before other (cc (e)) l r n)

pub same_place : (actor : ℕ) (whole : List Entry) (left right : Entry) (before other : List Entry) →
    Begins (left ∷ before) whole → Begins (right ∷ other) whole → left.actor ≡ actor → right.actor ≡ actor →
    entries_by actor before ≡ entries_by actor other → (left ≡ right) × (before ≡ other)
same_place actor whole left right before other a b l r n = same actor a.0 b.0 left right before other (sym a.1 ∙ b.1) l
    r (ap length n)

-- an entry is at most one map write
pub version_step : (setup : Setup) (entry : Entry) (before : List Entry)
    → (version_of setup before ≤ version_of setup (entry ∷ before))
    × (version_of setup (entry ∷ before) ≤ version_of setup before + 1)
unfolding map_writes_of
version_step setup entry before = grind arith

-- ---- entries over the bus's history

pub within_more : (n m : ℕ) → n ≤ m → (entry : RunEntry) → IsPlacedBelow n entry → IsPlacedBelow m entry
within_more n m more entry less = grind arith

pub all_reverse : {X : Type 0} (P : X → Type 0) (xs : List X) → All P xs → All P (reverse xs)
all_reverse P xs = All-permutation P xs (reverse xs) (IsPermutation-reverse xs)

pub all_turned : {X : Type 0} (P : X → Type 0) (xs : List X) → All P (reverse xs) → All P xs
all_turned P xs all = subst (All P) (reverse-reverse xs) (all_reverse P (reverse xs) all)

of_front : (n : ℕ) (bus : List Entry) (entry : RunEntry) → IsPlacedBelow n entry
    → entry_of (take n bus) entry ≡ entry_of bus entry
of_front n bus entry within = grind (arith, get_or-take)

-- entries within the front of the bus's history are the same over it
pub over_front : (n : ℕ) (bus : List Entry) (entries : List RunEntry) → All (IsPlacedBelow n) entries
    → over (take n bus) entries ≡ over bus entries
over_front n bus [] within = refl
over_front n bus (entry ∷ entries) within =
    rw (
      of_front n bus entry (within 0 entry (omega arith)),
      over_front n bus entries (λ k d less. within (suc k) d (omega (arith, less))),
    ) refl
