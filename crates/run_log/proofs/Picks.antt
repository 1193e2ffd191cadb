-- The line of an entry among those of its processor.
use Rattle.std.proofs.Common.{◌≡◌, ℕ, ◌+◌, ◌<◌, ◌≤◌, ◌==◌, ◌++◌, List, [], ◌∷◌, length, take, drop, get_or, map, filter, set}
use Rattle.std.proofs.Common.{Bool, refl, sym, ap, ◌∙◌, arith, append_assoc, decimal}
use Rattle.std.specs.List.{take-map}
use Rattle.board_prelude.proofs.{nat_tests, filter-append, take-append-drop, drop_more, get_or-append_seam, get_or-map}
use Rattle.board_prelude.proofs.{length-map, length-append, take_more, get_or-set_at, length-set, length-take-le}
use Rattle.board_prelude.proofs.{get_or-set_other, Entry, entries_by, line_feed, line_text, space}
use Rattle.logs.specs.Numbered.{tail_line, tail_text}
use Rattle.logs.proofs.Joined.{lines_are_numbered}
use Rattle.run_log.specs.Counts.{AreCountsOf, times}
use Rattle.run_log.specs.Lines.{AreLinesOf, lines_of}

pub times_of : (actor : ℕ) (entries : List Entry)
    → times actor (map (λ entry. entry.actor) entries) ≡ length (entries_by actor entries)
times_of actor [] = refl
times_of actor (entry ∷ later) = grind (arith, nat_tests, times_of actor later)

-- a processor's entries are those before one of its own, that one, and those after it
own_between : (entries : List Entry) (i actor : ℕ) (d : Entry) → i < length entries → (get_or entries i d).actor ≡ actor
    → entries_by actor entries
    ≡ entries_by actor (take i entries) ++ get_or entries i d ∷ entries_by actor (drop (i + 1) entries)
own_between entries i actor d less own =
    let whole = take-append-drop i entries in let cut = drop_more entries i d less in
    let test : Entry → Bool = λ entry. entry.actor == actor in
    let parts = filter-append test (take i entries) (drop i entries) in
    grind (arith, nat_tests, whole, cut, parts, own)

-- so is the line
line_between : (entries : List Entry) (i actor place : ℕ) (d : Entry) → i < length entries
    → (get_or entries i d).actor ≡ actor → place ≡ length (entries_by actor (take i entries))
    → (place < length (entries_by actor entries))
    × (get_or (lines_of (entries_by actor entries)) place [] ≡ tail_line (get_or entries i d))
line_between entries i actor place d less own is =
    let between = own_between entries i actor d less own in
    let front : List Entry = entries_by actor (take i entries) in
    let back : List Entry = entries_by actor (drop (i + 1) entries) in
    let size = length-append front (get_or entries i d ∷ back) in
    let within : place < length (entries_by actor entries) = rw between (omega (arith, is, size)) in
    let at = get_or-append_seam front (get_or entries i d) back d in (
      within,
      get_or-map tail_line (entries_by actor entries) place d [] within
          ∙ ap tail_line (ap (λ (n : ℕ). get_or (entries_by actor entries) n d) is
          ∙ (ap (λ (es : List Entry). get_or es (length front) d) between ∙ at)),
    )

-- the line of the entry at i, which is its processor's at `place`
pub record IsLineAt (lines : List (List (List ℕ))) (entries : List Entry) (i actor place : ℕ) (d : Entry) : Type 0
  where
    pub inside : i < length entries
    pub known : actor < length lines
    pub within : place < length (get_or lines actor [])
    pub line : get_or (get_or lines actor []) place [] ≡ tail_line (get_or entries i d)

pub line_at : (lines : List (List (List ℕ))) (order : List ℕ) (entries : List Entry) (i actor place : ℕ) (d : Entry)
    → AreLinesOf lines order entries → i < length order → actor ≡ get_or order i 0 → place ≡ times actor (take i order)
    → IsLineAt lines entries i actor place d
line_at lines order entries i actor place d are less own is =
    let f : Entry → ℕ = λ e. e.actor in
    let inside : i < length entries = omega (arith, less, ap length are.actors, length-map entries f) in
    let known : actor < length lines = rw own (are.callers i 0 less) in
    let actor_is : (get_or entries i d).actor ≡ actor =
    sym (own ∙ (ap (λ (xs : List ℕ). get_or xs i 0) are.actors ∙ get_or-map f entries i d 0 inside)) in
    let front = ap (λ (xs : List ℕ). times actor (take i xs)) are.actors
    ∙ (ap (times actor) (take-map f i entries) ∙ times_of actor (take i entries)) in
    let own_line = line_between entries i actor place d inside actor_is (is ∙ front) in
    let each = are.each actor known in
    record {
      inside = inside;
      known = known;
      within = rw (each, length-map (entries_by actor entries) tail_line) own_line.0;
      line = ap (λ (ls : List (List ℕ)). get_or ls place []) each ∙ own_line.1;
    }

-- with its number and the space before it
pub numbered : (n : ℕ) (entry : Entry) → decimal n ++ space ∷ tail_line entry ≡ line_text n entry ++ line_feed ∷ []
numbered n entry =
    rw (lines_are_numbered n entry) (sym (append_assoc (decimal n) (space ∷ tail_text entry) (line_feed ∷ [])))

-- ---- counts

pub times_more : (order : List ℕ) (i actor : ℕ) → i < length order
    → times actor (take (i + 1) order) ≡ times actor (take i order) + times actor (get_or order i 0 ∷ [])
times_more order i actor less =
    let more = take_more order i 0 less in let test : ℕ → Bool = λ other. other == actor in
    let parts = filter-append test (take i order) (get_or order i 0 ∷ []) in
    let size = length-append (filter test (take i order)) (filter test (get_or order i 0 ∷ [])) in
    grind (arith, more, parts, size)

pub times_small : (actor : ℕ) (order : List ℕ) → times actor order ≤ length order
times_small actor [] = omega arith
times_small actor (other ∷ order) = grind (arith, nat_tests, times_small actor order)

-- one more is counted
pub counts_next : (counts order : List ℕ) (i actor count : ℕ) → AreCountsOf counts (take i order) → i < length order
    → actor ≡ get_or order i 0 → actor < length counts → count ≡ get_or counts actor 0 + 1
    → AreCountsOf (set counts actor count) (take (i + 1) order)
counts_next counts order i actor count are less own within is other below =
    let more = times_more order i other less in let size = length-set counts actor count in
    let same = get_or-set_at counts actor other count 0 in let away = get_or-set_other counts actor other count 0 in
    grind (arith, nat_tests, more, size, same, away, are other, own, is)

-- a count is no larger than the entries are many
pub count_fits : (counts order : List ℕ) (i actor : ℕ) → AreCountsOf counts (take i order) → actor < length counts
    → i ≤ length order → get_or counts actor 0 ≤ i
count_fits counts order i actor are below less =
    omega (arith, are actor below, times_small actor (take i order), length-take-le i order less)
