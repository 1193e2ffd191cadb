-- Each step keeps the rule of the table.
use Rattle.std.proofs.Common.{map, append-nil, mod-eq_of_lt, ◌≡◌, ◌≢◌, ℕ, ◌+◌, ◌%◌, ◌^◌, ◌≤◌, ◌<◌, List, [], ◌∷◌, ◌++◌}
use Rattle.std.proofs.Common.{length, set, get_or, drop, All, Option, Some, None, length-set, length-append}
use Rattle.std.proofs.Common.{append_assoc, sym, refl, ap, ◌∙◌, subst, arith, ◌==◌, cond, IsSome, ne_eqb}
use Rattle.std.proofs.Math.Nat.{mod-add-mod}
use mathlib.Core.Option.{some, none, some-injective, some-ne-none}
use mathlib.Core.Option as maybe
use mathlib.Core.Logic.{dite}
use lib.Seq.{set-get_or}
use Rattle.std.proofs.lemmas.List.Elements.{All-append, All-cons, All-nil, filter-append}
use mathlib.Core.List.{IsPrefix}
use native.Mathlib.Decide.{ℕ_discrete}
use lib.ListN.{get_elem?}
use Rattle.atomic_table.specs.Table.{State, Me, step, keeps, takes, gives, put_back, rest, Allows, Splits, Joins, Final}
use Rattle.atomic_table.specs.Table.{Seen, opening}
use Rattle.atomic_table.proofs.Lists.{set_here, set_else, set_again, at_set, at_longer, one_turn}
use Rattle.bus_turn.specs.declared.view.View.{View}
use Rattle.bus_turn.specs.declared.view.Stage.{Stage}
use Rattle.bus_turn.specs.declared.view.Stage.TheVariants.{Idle, Waits, Holds, Spent}
use Rattle.bus_turn.specs.Views.{own_by, spent, staged, sees, commits, starting, after_split, split_off, with_joined}
use Rattle.bus_turn.specs.Plays.{Fits, Closes, drew, called, counted, gave, looked, ticket_of}
use Rattle.bus_turn.specs.Rule.{Place, home, away, slot_of, Book, gone, waiting, waits, is_gone, joins, total, IsSpent}
use Rattle.bus_turn.specs.Rule.{AreJoined, log_of, words_of, AtStage, Knows, Lies, Ordered, Ruled}
use Rattle.bus_turn.proofs.Rows.{total_set, total_snoc, at_lt, at_end, set_apart, prefix_refl, prefix_trans, drop_front}
use Rattle.bus_turn.proofs.Rows.{own_more, own_none, few_wait, fewer_wait}
use Rattle.std.proofs.lemmas.Bool.Decides.{nat_tests}

abbrev part_or : {F : Type 0} → F → Option F → F
part_or d None = d
part_or d (Some x) = x

module _ {T E F : Type 0} (entries : T → List E) (actor : E → ℕ) (fixed : T → F) (first : List E) (part : F) where
  abbrev V : Type 0
  V = View E F

  abbrev M : Type 0
  M = Me (Option T) V

  abbrev B : Type 0
  B = Book T E

  abbrev S : Type 0
  S = State (Option T) V

  abbrev Homes : Type 0
  Homes = List (maybe.Option (Option T))

  abbrev R : S → Type 0
  R = Ruled entries actor fixed first part

  abbrev O : S → Type 0
  O = Ordered entries actor fixed first part

  abbrev K : B → List V → ℕ → V → Type 0
  K = Knows actor first part

  abbrev L : B → List V → Place T → Type 0
  L = Lies entries fixed first part

  -- ---- what a step of one pass leaves true of the others

  -- what is known of the passes that were joined stays
  abbrev Stays : B → B → List V → List V → Type 0
  Stays b b' views views' = (p : ℕ) → IsSpent views p
      → (own_by actor p b'.since ≡ own_by actor p b.since) × IsSpent views' p

  -- it does over a step of a pass that was not
  set_stays : (b b' : B) (views : List V) (id : ℕ) (v w : V) → get_elem? views id ≡ some v → gone v.stage ≡ 0
      → ((n : ℕ) → n ≢ id → own_by actor n b'.since ≡ own_by actor n b.since) → Stays b b' views (set views id w)
  set_stays b b' views id v w at lives same p gone =
      let apart : p ≢ id = λ e. let is : v ≡ spent = some-injective v spent (cc (at, gone)) in
      omega (arith, ap is_gone is, lives) in
      (same p apart, set_else views id p w apart ∙ gone)

  joined_on : (b b' : B) (views views' : List V) → Stays b b' views views' → (xs : List (ℕ × List E))
      → All (λ p. (own_by actor p.0 b.since ≡ p.1) × IsSpent views p.0) xs
      → All (λ p. (own_by actor p.0 b'.since ≡ p.1) × IsSpent views' p.0) xs
  joined_on b b' views views' stay xs all k d less =
      let was = all k d less in let is = stay (get_or xs k d).0 was.1 in (is.0 ∙ was.0, is.1)

  -- what a pass knows, where its view changes in these parts
  knows_on : (b b' : B) (views views' : List V) (j : ℕ) (u : V) (st : Stage) (n : ℕ) (seen told mine : List E)
      → Stays b b' views views' → K b views j u → (j ≡ 0 → n + 1 ≡ length views')
      → IsPrefix seen (log_of first b') → IsPrefix told (log_of first b') → own_by actor j b'.since ≡ mine
      → AtStage first b' j seen st
      → K b' views' j (record u { stage = st; splits = n; seen = seen; told = told; mine = mine })
  knows_on b b' views views' j u st n seen told mine stay k split begins telling own stage =
      assumption (joined_on b b' views views' stay u.joined k.joined)

  -- what a pass knows that is at this stage
  known : (s : S) (o : O s) (id : ℕ) (v : V) (st : Stage) → get_elem? s.views id ≡ some v → v.stage ≡ st → gone st ≡ 0
      → K o.book s.views id v × AtStage first o.book id v.seen st × (waits v ≡ waiting st)
  known s o id v st at is lives =
      let k = o.each_seat id v at (λ dead. omega (arith, ap gone (sym is ∙ dead), lives)) in
      (k, rw is at k.stage, ap waiting is)

  -- where a pass holds the value, its ticket is served
  is_held : (s : S) (o : O s) → L o.book s.views away → o.book.serving < o.book.ticket
  is_held s o lies = (known s o _ lies.0 Holds lies.1 lies.2 refl).1.0

  -- the value is in the slot, where no pass holds it
  is_home : (b : B) (views : List V) (p : Place T) → L b views p → (L b views away → ⊥)
      → (x : T) × (p ≡ home x) × L b views (home x)
  is_home b views (home x) lies free = (x, refl, lies)
  is_home b views away lies free = absurd (free lies)

  -- a pass that does not hold the value steps, and no entry is added
  lies_on : (s : S) (o : O s) (b : B) (id : ℕ) (v w : V) → get_elem? s.views id ≡ some v → v.stage ≢ Holds
      → log_of first b ≡ log_of first o.book
      → (o.book.serving < o.book.ticket → b.owner b.serving ≡ o.book.owner o.book.serving)
      → (p : Place T) → L o.book s.views p → L b (set s.views id w) p
  lies_on s o b id v w at other same owner p lies = grind (arith, nat_tests, some-injective, is_held, set_else)

  -- the pass id goes from the view v to w, and the book from that of o to b
  moved : (s : S) (o : O s) (id : ℕ) (v w : V) (words : List ℕ) (homes : Homes) (b : B)
      → get_elem? s.views id ≡ some v → gone v.stage ≡ 0 → words ≡ words_of first b → homes ≡ slot_of b.place ∷ []
      → b.ticket + waits v + o.book.serving ≡ o.book.ticket + waits w + b.serving
      → L b (set s.views id w) b.place → IsPrefix (log_of first o.book) (log_of first b)
      → ((n : ℕ) → n ≢ id → own_by actor n b.since ≡ own_by actor n o.book.since)
      → All (λ e. actor e < length s.views) b.since
      → ((j : ℕ) (u : V) → j ≢ id → AtStage first o.book j u.seen u.stage → AtStage first b j u.seen u.stage)
      → (w.stage ≢ Spent → K b (set s.views id w) id w)
      → O record { words = words; homes = homes; views = set s.views id w }
  moved s o id v w words homes b at lives words_are home_is count lies logs same numbered others mine =
      let views : List V = set s.views id w in let long = length-set s.views id w in
      let waited = total_set waits _ id v w at in let out = o.out in let few = o.few in
      let other : (j : ℕ) (u : V) → j ≢ id → K o.book s.views j u → K b views j u = λ j u apart k.
      knows_on _ b _ _ j u _ _ _ _ _ (set_stays o.book b _ id v w at lives same) k (λ z. k.splits z ∙ sym long)
      (prefix_trans _ _ _ k.begins logs) (prefix_trans _ _ _ k.told logs) (same j apart ∙ k.mine)
      (others j u apart k.stage) in
      record {
        book = b;
        words_are = words_are;
        home_is = home_is;
        out = omega arith;
        few = (omega arith, omega arith);
        lies = lies;
        each_seat = λ j u e living. grind (arith, at_set s.views id j w u e, other j u, o.each_seat j u, mine);
        numbered = rw long numbered;
      }

  -- the same where the pass goes on to another stage, and has seen, is told or has added more
  steps_on : (s : S) (r : R s) (id : ℕ) (v : V) (was st : Stage) (seen told mine : List E) (words : List ℕ)
      (homes : Homes) (b : B) → get_elem? s.views id ≡ some v → v.stage ≡ was → gone was + gone st ≡ 0
      → words ≡ words_of first b → homes ≡ slot_of b.place ∷ []
      → b.ticket + waiting was + r.0.book.serving ≡ r.0.book.ticket + waiting st + b.serving
      → L b (set s.views id (record v { stage = st; seen = seen; told = told; mine = mine })) b.place
      → IsPrefix (log_of first r.0.book) (log_of first b)
      → ((n : ℕ) → n ≢ id → own_by actor n b.since ≡ own_by actor n r.0.book.since)
      → All (λ e. actor e < length s.views) b.since
      → ((j : ℕ) (u : V) → j ≢ id → AtStage first r.0.book j u.seen u.stage → AtStage first b j u.seen u.stage)
      → IsPrefix seen (log_of first b) → IsPrefix told (log_of first b) → own_by actor id b.since ≡ mine
      → AtStage first b id seen st → R record {
        words = words;
        homes = homes;
        views = set s.views id (record v { stage = st; seen = seen; told = told; mine = mine });
      }
  steps_on s r id v was st seen told mine words homes b at is living words_are home_is count lies logs same numbered
      others begins telling own stage =
      let w : V = record v { stage = st; seen = seen; told = told; mine = mine } in
      let k = known s r.0 id v was at is (omega arith) in let lives : gone v.stage ≡ 0 = omega (arith, ap gone is) in
      let lost = total_set is_gone _ id v w at in let found = total_set joins _ id v w at in
      let joined : total is_gone s.views ≡ total joins s.views = r.1 in (
        moved s r.0 id v w _ _ b at lives words_are home_is (omega (arith, k.2)) lies logs same numbered others
            (λ _. knows_on _ b _ _ id v st _ _ _ _ (set_stays r.0.book b _ id v w at lives same) k.0
            (λ z. k.0.splits z ∙ sym (length-set s.views id w)) begins telling own stage),
        omega arith,
      )

  -- ---- the steps

  -- a ticket is drawn
  pub draws : (slots id : ℕ) (me : M) → me.0.stage ≡ Idle
      → Allows R slots id me 0 (λ n. (n + 1) % 2 ^ 64) (drew (step slots 0 1 0 none) me)
  draws slots id me idle s r deep at _ =
      let o = r.0 in let b = o.book in let v : V = me.0 in let w : V = staged v (Waits b.ticket) in
      let b' : B = record b { ticket = b.ticket + 1; owner = λ t. cond (t == b.ticket) id (b.owner t) } in
      let k = (known s o id v Idle at idle refl).0 in let out = o.out in
      let low : b.serving ≤ b.ticket = omega arith in (
        w,
        keeps,
        tt,
        steps_on s r id v Idle (Waits b.ticket) v.seen v.told v.mine _ s.homes b' at idle refl
            (rw (o.words_are, mod-add-mod b.ticket (2 ^ 64) 1) refl) o.home_is (omega arith)
            (lies_on s o b' id v w at (λ e. cc) refl (λ held. grind (arith, nat_tests)) b.place o.lies)
            (prefix_refl (log_of first b)) (λ n _. refl) o.numbered (λ j u _ h. grind (arith, nat_tests))
            k.begins k.told k.mine (low, omega arith, grind (arith, nat_tests)),
        (b.ticket, sym (ap (λ (ws : List ℕ). get_or ws 0 0) o.words_are), refl),
      )

  -- what fits the value that has all entries
  fits : (b : B) (views : List V) (i : ℕ) (v : V) (x : T) → K b views i v → entries x ≡ log_of first b
      → fixed x ≡ part → Fits entries actor fixed v x
  fits b views i v x k all same = grind (arith, nat_tests, drop_front)

  -- the turn is taken, if the pass's ticket is served
  pub calls : (slots id : ℕ) (me : M) (t : ℕ) → me.0.stage ≡ Waits t
      → Allows R slots id me 1 (λ n. n) (called entries actor fixed (step slots 1 0 0 none) me)
  calls slots id me t is s r deep at _ =
      let o = r.0 in let b = o.book in let v : V = me.0 in let known = known s o id v (Waits t) at is refl in
      let k = known.0 in let st = known.1 in let few = few_wait s.views in let out = o.out in let most = o.few.1 in
      let shown : get_or s.words 1 0 ≡ b.serving % 2 ^ 64 = ap (λ (ws : List ℕ). get_or ws 1 0) o.words_are in
      dite (ℕ_discrete (ticket_of v.stage % 2 ^ 64) (get_or s.words 1 0))
      (λ hit.
      let same : b.serving ≡ t = one_turn b.serving t (2 ^ 64) st.0 (omega (arith, st.1))
      (sym shown ∙ (sym hit ∙ ap (λ (z : Stage). ticket_of z % 2 ^ 64) is)) in
      let own : b.owner b.serving ≡ id = ap b.owner same ∙ st.2 in
      let value = is_home b s.views b.place o.lies (λ held. let one : v ≡ held.0 =
      some-injective v held.0 (sym at ∙ (ap (get_elem? s.views) (sym own) ∙ held.1)) in
      cc (is, held.2, ap (λ (z : V). z.stage) one)) in
      let x : T = value.0 in let lies = value.2 in let w : V = sees v Holds (entries x) in (
        w,
        takes 0 (Some x),
        ap (λ (hs : Homes). get_elem? hs 0) (o.home_is ∙ ap (λ (q : Place T). slot_of q ∷ []) value.1),
        steps_on s r id v (Waits t) Holds (entries x) [] v.mine _ _ (record b { place = away }) at is refl
            (ap (λ (ws : List ℕ). set ws 1 (get_or ws 1 0)) o.words_are)
            (ap (λ (hs : Homes). set hs 0 none) o.home_is) (omega arith)
            (w, ap (get_elem? (set s.views id w)) own ∙ set_here s.views id w (at_lt _ id v at), refl)
            (prefix_refl (log_of first b)) (λ n _. refl) o.numbered (λ j u _ h. grind arith)
            ([], append-nil (entries x) ∙ lies.0) (log_of first b, refl) k.mine
            (omega (arith, st.1), own, refl, lies.0),
        ((λ _. (x, refl, fits b _ id v x k lies.0 lies.1)), λ missed. absurd (missed hit)),
      ))
      (λ missed. (
        v,
        keeps,
        tt,
        rw (set-get_or s.words 1 0, set_again s.views id v at) r,
        ((λ hit. absurd (missed hit)), λ _. refl),
      ))

  pub looks : (slots id : ℕ) (me : M) → me.0.stage ≡ Idle
      → Allows R slots id me 1 (λ n. n) (looked (step slots 1 0 0 none) me)
  looks slots id me idle s r deep at _ =
      let o = r.0 in let b = o.book in let v : V = me.0 in let w : V = sees v Idle (log_of first b) in
      let k = (known s o id v Idle at idle refl).0 in (
        w,
        keeps,
        tt,
        steps_on s r id v Idle Idle _ [] _ _ _ b at idle refl (ap (λ (ws : List ℕ). set ws 1 (get_or ws 1 0))
            o.words_are) o.home_is (omega arith) (lies_on s o b id v w at (λ e. cc) refl (λ _. refl) _ o.lies)
            (prefix_refl (log_of first b)) (λ n _. refl) o.numbered (λ j u _ h. h)
            (prefix_refl (log_of first b)) (log_of first b, refl) k.mine tt,
        (log_of first b, refl, k.begins, k.told),
      )

  -- an entry is committed
  pub counts : (slots id : ℕ) (me : M) (added : List E) (e : E) → added ≡ e ∷ [] → me.0.stage ≡ Holds
      → actor e ≡ me.0.number
      → Allows R slots id me 2 (λ n. (n + 1) % 2 ^ 64) (counted added (step slots 2 1 0 none) me)
  counts slots id me added e one is by s r deep at _ =
      let o = r.0 in let b = o.book in let v : V = me.0 in let w : V = commits v (e ∷ []) in
      let b' : B = record b { since = b.since ++ e ∷ [] } in
      let known = known s o id v Holds at is refl in let k = known.0 in let st = known.1 in
      let mine : actor e ≡ id = by ∙ k.number in let inside = at_lt _ id v at in
      let logs : IsPrefix (log_of first b) (log_of first b') = (e ∷ [], append_assoc first b.since (e ∷ [])) in
      let long : length (log_of first b) + 1 ≡ length (log_of first b') =
      omega (arith, length-append (log_of first b) (e ∷ []), ap (λ (xs : List E). length xs) logs.1) in
      let all : v.seen ++ e ∷ [] ≡ log_of first b' = ap (λ (xs : List E). xs ++ e ∷ []) st.3 ∙ logs.1 in (
        w,
        keeps,
        tt,
        steps_on s r id v Holds v.stage _ v.told _ _ _ b' at is (omega (arith, ap gone is))
            (rw (o.words_are, mod-add-mod (length (log_of first b)) (2 ^ 64) 1, long) refl) o.home_is
            (omega (arith, ap waiting is)) (subst (L b' (set s.views id w)) (sym st.2)
            (w, ap (get_elem? (set s.views id w)) st.1 ∙ set_here s.views id w inside, is)) logs
            (λ n other. rw (
              filter-append (λ (x : E). actor x == n) b.since (e ∷ []),
              ne_eqb (actor e) n
                  (λ d. other (sym d ∙ mine)),
            ) (append-nil (own_by actor n b.since)))
            (All-append (λ (x : E). actor x < length s.views) b.since (e ∷ []) o.numbered
            (λ k d low. grind (arith, mine, inside))) (λ j u other h. grind (arith, st.1))
            ([], append-nil (v.seen ++ e ∷ []) ∙ all) (prefix_trans _ _ _ k.told logs)
            (own_more _ id b.since e mine ∙ ap (λ (xs : List E). xs ++ e ∷ []) k.mine)
            (subst (AtStage first b' id w.seen) (sym is) (st.0, st.1, st.2, all)),
        ap (λ (xs : List E). (commits v xs, me.1)) (sym one),
      )

  -- the turn is given back
  pub gives_back : (slots id : ℕ) (me : M) (x : T) → me.0.stage ≡ Holds → me.1 ≡ (0, Some x) ∷ []
      → entries x ≡ me.0.seen → me.0.fixed ≡ Some (fixed x)
      → Allows R slots id me 1 (λ n. (n + 1) % 2 ^ 64) (gave (step slots 1 1 0 none) me)
  gives_back slots id me x is carried list fixed_is s r deep at _ =
      let o = r.0 in let b = o.book in let v : V = me.0 in
      let b' : B = record b { serving = b.serving + 1; place = home x } in
      let known = known s o id v Holds at is refl in let k = known.0 in let st = known.1 in (
        staged v Idle,
        gives,
        tt,
        steps_on s r id v Holds Idle v.seen v.told v.mine _ _ b' at is refl
            (rw (o.words_are, mod-add-mod b.serving (2 ^ 64) 1) refl)
            (ap (put_back s.homes) carried ∙ ap (λ (hs : Homes). set hs 0 (some (Some x))) o.home_is) (omega arith)
            (list ∙ st.3, ap (part_or part) (sym fixed_is ∙ k.part_is)) (prefix_refl (log_of first b))
            (λ n _. refl) o.numbered (λ j u other h. grind (arith, st.1)) k.begins k.told k.mine tt,
        ap (λ (cs : List (ℕ × Option T)). (staged v Idle, cs)) (ap rest carried),
      )

  lies_longer : (b : B) (views : List V) (right : V) (p : Place T) → L b views p → L b (views ++ right ∷ []) p
  lies_longer b views right p h = grind (arith, at_longer)

  pub splits_seat : (id : ℕ) (v : V) → v.stage ≡ Idle → v.number ≡ 0 → v.splits < 255
      → Splits R id v (after_split v) (split_off v)
  splits_seat id v idle opener few s r at =
      let o = r.0 in let b = o.book in let left : V = after_split v in let right : V = split_off v in
      let lives : gone v.stage ≡ 0 = ap gone idle in let k = (known s o id v Idle at idle refl).0 in
      let zeroth : id ≡ 0 = sym k.number ∙ opener in let n : ℕ = length s.views in
      let all : v.splits + 1 ≡ n = k.splits zeroth in let changed : List V = set s.views id left in
      let views : List V = changed ++ right ∷ [] in let size = length-set s.views id left in
      let long : length views ≡ n + 1 = length-append changed (right ∷ []) ∙ ap (λ (m : ℕ). m + 1) size in
      let waited = total_set waits s.views id v left at in let waited' = total_snoc waits changed right in
      let lost = total_set is_gone s.views id v left at in let lost' = total_snoc is_gone changed right in
      let found = total_set joins s.views id v left at in let found' = total_snoc joins changed right in
      let joined : total is_gone s.views ≡ total joins s.views = r.1 in let out = o.out in
      let stay : Stays b b s.views views = λ p gone.
      (refl, at_longer changed (right ∷ []) p spent (set_stays b b s.views id v left at lives (λ m _. refl) p gone).1)
      in
      let old : (j : ℕ) (u : V) (m : ℕ) → (j ≡ 0 → m + 1 ≡ length views) → K b s.views j u
      → K b views j (record u { splits = m }) = λ j u m split k.
      knows_on b b s.views views j u u.stage m u.seen u.told u.mine stay k split k.begins k.told k.mine k.stage in
      let told : IsPrefix right.told (log_of first b) = (log_of first b, refl) in
      let splits : n ≡ 0 → right.splits + 1 ≡ length views = λ z. absurd (omega arith) in
      let mine = own_none actor n b.since o.numbered in
      let none = All-nil (λ (p : ℕ × List E). (own_by actor p.0 b.since ≡ p.1) × IsSpent views p.0) in
      let new : K b views n right = assumption in
      let kept : K b views id left = old id v (v.splits + 1) (λ _. omega arith) k in
      let others : (j : ℕ) (u : V) → j ≢ id → get_elem? s.views j ≡ some u → u.stage ≢ Spent → K b views j u =
      λ j u other e live. old j u u.splits (λ z. absurd (other (z ∙ sym zeroth))) (o.each_seat j u e live) in (
        record {
          book = b;
          words_are = o.words_are;
          home_is = o.home_is;
          out = omega arith;
          few = (omega arith, omega arith);
          lies = lies_longer b changed right b.place
              (lies_on s o b id v left at (λ e. cc) refl (λ _. refl) b.place o.lies);
          each_seat = λ j u e live.
              let was = at_set s.views id j left u in
              grind (arith, at_end changed right u j e, was, size, kept, others j u, new);
          numbered = λ k e less. let low = o.numbered k e less in omega arith;
        },
        omega arith,
      )

  pub joins_seat : (id : ℕ) (v : V) (other : ℕ) (w : V) → v.stage ≡ Idle → w.stage ≡ Idle
      → Joins R id v other w (with_joined v w) spent
  unfolding moved
  joins_seat id v other w idle idle' s r at apart at_both =
      let o = r.0 in let b = o.book in let both : V = with_joined v w in let lives : gone v.stage ≡ 0 = ap gone idle in
      let lives' : gone w.stage ≡ 0 = ap gone idle' in
      let at' : get_elem? s.views other ≡ some w = sym (set_else s.views id other both apart) ∙ at_both in
      let kw = (known s o other w Idle at' idle' refl).0 in
      let none_out : waits v ≡ 0 = ap waiting idle in let none_out' : waits w ≡ 0 = ap waiting idle' in
      let views₁ : List V = set s.views other spent in let apart' : id ≢ other = λ e. apart (sym e) in
      let s₁ : S = record { words = s.words; homes = s.homes; views = views₁ } in
      let o₁ : O s₁ = moved s o other w spent s.words s.homes b at' lives' o.words_are o.home_is (omega arith)
      (lies_on s o b other w spent at' (λ e. cc) refl (λ _. refl) b.place o.lies)
      (prefix_refl (log_of first b)) (λ n _. refl) o.numbered (λ j u _ h. h) (λ n. absurd (n refl)) in
      let at₁ : get_elem? views₁ id ≡ some v = set_else s.views other id spent apart' ∙ at in
      let k = (known s₁ o₁ id v Idle at₁ idle refl).0 in let views₂ : List V = set views₁ id both in
      let stay₁ : Stays b b s.views views₁ = set_stays b b s.views other w spent at' lives' (λ n _. refl) in
      let stay₂ : Stays b b views₁ views₂ = set_stays b b views₁ id v both at₁ lives (λ n _. refl) in
      let P : ℕ × List E → Type 0 = λ p. (own_by actor p.0 b.since ≡ p.1) × IsSpent views₂ p.0 in
      let splits : id ≡ 0 → both.splits + 1 ≡ length views₂ = λ z. k.splits z ∙ sym (length-set views₁ id both) in
      let stage : AtStage first b id both.seen both.stage = rw idle tt in
      let all = All-append P v.joined ((w.number, w.mine) ∷ w.joined)
      (joined_on b b views₁ views₂ stay₂ v.joined k.joined) (All-cons P (w.number, w.mine) w.joined (
        ap (λ (n : ℕ). own_by actor n b.since) kw.number ∙ kw.mine,
        ap (get_elem? views₂) kw.number ∙ (stay₂ other (set_here s.views other spent (at_lt s.views other w at'))).1,
      )
      (joined_on b b views₁ views₂ stay₂ w.joined (joined_on b b s.views views₁ stay₁ w.joined kw.joined))) in
      let o₂ : O record { words = s.words; homes = s.homes; views = views₂ } = moved s₁ o₁ id v both s.words s.homes b
      at₁ lives o.words_are o.home_is (omega arith)
      (lies_on s₁ o₁ b id v both at₁ (λ e. cc) refl (λ _. refl) b.place o₁.lies)
      (prefix_refl (log_of first b)) (λ n _. refl) o₁.numbered (λ j u _ h. h) (λ _. assumption) in
      let lost = total_set is_gone s.views other w spent at' in let lost' = total_set is_gone views₁ id v both at₁ in
      let found = total_set joins s.views other w spent at' in let found' = total_set joins views₁ id v both at₁ in
      let long = length-append v.joined ((w.number, w.mine) ∷ w.joined) in
      let not_gone : is_gone w ≡ 0 = ap gone idle' in let joined : total is_gone s.views ≡ total joins s.views = r.1 in
      let joined₂ : AreJoined views₂ = omega arith in
      rw (set_apart s.views id other both spent apart) (o₂, joined₂)

  -- the table as `open` makes it, with x in the slot
  pub begins : (x : T) (count : ℕ) (words : List ℕ) (slots : List (Option T)) → entries x ≡ first → fixed x ≡ part
      → count ≡ length (entries x) → count < 2 ^ 64 → words ≡ 0 ∷ 0 ∷ count ∷ [] → slots ≡ Some x ∷ []
      → R (opening words slots (starting first part))
  begins x count words slots same fixed_is is small words_are slots_are =
      let v : V = starting first part in
      let b : B = record { since = []; ticket = 0; serving = 0; owner = λ _. 0; place = home x } in
      let long : count ≡ length (log_of first b) % 2 ^ 64 =
      rw (append-nil first, ← same, ← is) (sym (mod-eq_of_lt small)) in
      let seen : IsPrefix v.seen (log_of first b) = ([], refl) in
      let told : IsPrefix v.told (log_of first b) = (log_of first b, refl) in
      let none = All-nil (λ (p : ℕ × List E). (own_by actor p.0 [] ≡ p.1) × IsSpent (v ∷ []) p.0) in
      let knows : K b (v ∷ []) 0 v = assumption in (
        record {
          book = b;
          words_are = words_are ∙ ap (λ (n : ℕ). 0 ∷ 0 ∷ n ∷ []) long;
          home_is = ap (λ (xs : List (Option T)). map some xs) slots_are;
          out = refl;
          few = (omega arith, omega arith);
          lies = (same ∙ sym (append-nil first), fixed_is);
          each_seat = λ i u e live. grind (arith, at_end [] v u i e, knows, some-ne-none u);
          numbered = All-nil (λ (e : E). actor e < 1);
        },
        refl,
      )

  -- the slot that was found has the value
  pub ends : (id : ℕ) (v : V) (words : List ℕ) (slots : List (Option T)) (got : Option T) → v.stage ≡ Idle
      → v.number ≡ 0 → length v.joined ≡ v.splits → Final (Seen R id v) words slots → get_elem? slots 0 ≡ some got
      → IsSome got × ((x : T) → got ≡ Some x → Closes entries actor fixed v x)
  ends id v words slots got idle opener all final got_is =
      let s : S = final.0 in let o = final.1.0.0 in let at = final.1.1 in let b = o.book in
      let joined : total is_gone s.views ≡ total joins s.views = final.1.0.1 in
      let k = (known s o id v Idle at idle refl).0 in
      let split : v.splits + 1 ≡ length s.views = k.splits (sym k.number ∙ opener) in
      -- all other passes were joined, so none has a ticket
      let under = fewer_wait s.views id v at (ap (λ (st : Stage). waiting st + gone st) idle) in
      let out = o.out in
      let value = is_home b s.views b.place o.lies (λ held. omega (arith, is_held s o held)) in
      let y : T = value.0 in let lies = value.2 in
      let found : got ≡ Some y = some-injective got (Some y) (sym got_is ∙ final.4 0 (Some y)
      (ap (λ (hs : Homes). get_elem? hs 0) (o.home_is ∙ ap (λ (q : Place T). slot_of q ∷ []) value.1))) in
      let since : drop (length v.opened) (entries y) ≡ b.since =
      (λ c. drop (length (k.opened c)) (lies.0 c)) ∙ drop_front first b.since in
      let closes : Closes entries actor fixed v y = record {
        fits = fits b s.views id v y k lies.0 lies.1;
        joined = λ i d less. let one = k.joined i d less in ap (own_by actor (get_or v.joined i d).0) since ∙ one.0;
        callers = rw since (λ i d less. let low = o.numbered i d less in omega arith);
      } in
      (rw found refl, λ x is. let same : y ≡ x = cc in rw same at closes)
