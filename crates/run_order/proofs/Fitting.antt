-- A processor's statements in the history of the bus: where its calls stand, and between which versions its looks.
use Rattle.std.proofs.Common.{ℕ, ◌≡◌, ◌≤◌, false, List, [], ◌∷◌, ◌+◌, Bool, ◌++◌, length, refl, sym, ◌∙◌, ap, arith}
use Rattle.std.proofs.Common.{append_assoc, length-append, map}
use Rattle.board_prelude.proofs.{Event, Look, Saw, Entry, Setup, version_of, IsAnswer, entries_by, drop-append_seam}
use Rattle.board_prelude.proofs.{option_to_list, Kind, Area, MapChange, IsCardList, byte_of, map_change_of}
use Rattle.board_prelude.proofs.{map_writes_of, registers_after, Bytes, IsSpan, SameMapBytes, map_writes_decide}
use Rattle.board_prelude.proofs.{map_bytes_decide}
use Rattle.board_spec.specs.declared.event.Event.TheVariants.{Look as LookAt}
use Rattle.run_order.specs.declared.done.Done.{Done}
use Rattle.run_order.specs.declared.done.Done.TheVariants.{Went, Looked}
use Rattle.run_order.specs.Placing.{is_look, event_of, without_first, noted}
use Rattle.run_order.specs.Trace.{Begins, HasMoreWrites, IsLookOf, IsDone}
use Rattle.run_order.proofs.Histories.{onto, begins_before, begins_trans, own_later, same_place}

-- ---- a processor's statements in the bus's whole history: where its calls stand, and between which versions its looks

-- what a look saw is the answer after every beginning of the history that has as many map writes
abbrev pub IsRight : Setup → List Entry → Event → Look → Type 0
IsRight setup whole event look =
    (before : List Entry) → Begins before whole → version_of setup before ≡ look.version
    → IsAnswer setup before event (Saw look)

-- a call of the bus: the processor's next entry after `from`, when it knew `low` map writes, and the version after it
pub record IsCall (setup : Setup) (whole : List Entry) (actor : ℕ) (from : List Entry) (low : ℕ) (event : Event)
    (version : ℕ) (before : List Entry) (entry : Entry) : Type 0 where
  pub own : entry.actor ≡ actor
  pub said : entry.event ≡ event
  pub no_look : is_look event ≡ false
  pub noted : version ≡ version_of setup (entry ∷ before)
  pub next : entries_by actor before ≡ entries_by actor from
  pub known : low ≤ version_of setup before
  pub place : Begins (entry ∷ before) whole

-- a processor's own statements in a history of the bus, which is whole now: `from` is the history up to its own last
-- call, and `low` how many map writes it knew
abbrev pub Follows : Setup → List Entry → ℕ → List Entry → ℕ → List Done → Type 0
Follows setup whole actor from low [] = entries_by actor whole ≡ entries_by actor from
Follows setup whole actor from low (Looked kind addr smm look ∷ items) =
    (low ≤ look.version) × (look.version ≤ version_of setup whole) × IsRight setup whole (LookAt kind addr smm) look
    × Follows setup whole actor from look.version items
Follows setup whole actor from low (Went version event ∷ items) =
    (before : List Entry) × (entry : Entry) × IsCall setup whole actor from low event version before entry
    × Follows setup whole actor (entry ∷ before) (version_of setup (entry ∷ before)) items

-- ---- what the clauses of a worker's calls say is what the law of the places asks

extends_length : (shorter longer : List MapChange) → HasMoreWrites shorter longer → length shorter ≤ length longer
extends_length shorter longer e = omega (arith, ap length e.1 ∙ length-append e.0 shorter)

-- two ends of one list that are as long are one
same_end : (xs ys shorter other : List MapChange) → xs ++ shorter ≡ ys ++ other → length shorter ≡ length other
    → shorter ≡ other
same_end xs ys shorter other e n =
    grind (arith, ap length e, length-append, drop-append_seam xs shorter, drop-append_seam ys other)

writes_extend : (setup : Setup) (more before : List Entry)
    → HasMoreWrites (map_writes_of setup before) (map_writes_of setup (more ++ before))
unfolding map_writes_of
writes_extend setup [] before = ([], refl)
writes_extend setup (entry ∷ more) before =
    let rest = writes_extend setup more before in
    let change : List MapChange = option_to_list (map_change_of setup (more ++ before) entry.event) in
    (change ++ rest.0, grind (arith, rest.1, append_assoc change rest.0))

-- a span of one state of the registers is one of each state with the same map bytes
span_moves : (setup : Setup) (bytes other : Bytes) → IsCardList setup.cards → SameMapBytes setup bytes other
    → (addr : ℕ) (kind : Kind) (smm : Bool) (lo hi : ℕ) (area : Area)
    → IsSpan setup bytes addr kind smm lo hi area → IsSpan setup other addr kind smm lo hi area
span_moves setup bytes other cards same addr kind smm lo hi area span =
    let area_same = λ (x : ℕ). (map_bytes_decide setup bytes other cards same x kind smm).0 in
    grind (arith, area_same, span)

module _ (setup : Setup) (cards : IsCardList setup.cards) (whole : List Entry) (actor : ℕ) (opened : List Entry) where
  right : (known : List MapChange) (kind : Kind) (addr : ℕ) (smm : Bool) (look : Look)
      → IsLookOf setup known kind addr smm look → HasMoreWrites known (map_writes_of setup whole)
      → IsRight setup whole (LookAt kind addr smm) look
  right known kind addr smm look is e before b version =
      let part = rw (← b.1) at (writes_extend setup b.0 before) in
      let same : map_writes_of setup before ≡ known = same_end part.0 e.0 (map_writes_of setup before) known
      (sym part.1 ∙ e.1) (version ∙ is.version) in
      let bytes : SameMapBytes setup (registers_after setup known) (byte_of setup before) =
      λ reg on. grind (arith, same, map_writes_decide setup before reg on) in
      record {
        version = sym version;
        span = span_moves setup (registers_after setup known) (byte_of setup before) cards
            bytes addr kind smm look.lo look.hi look.area is.span;
      }

  -- what a worker did leads on to what it still has to do
  pub follows_on : (done : List Done) (seen : List Entry) (known : List MapChange) (items : List Done) →
      IsDone setup actor opened done seen known → Begins seen whole → HasMoreWrites known (map_writes_of setup whole) →
      Follows setup whole actor seen (length known) items → Follows setup whole actor opened (version_of setup opened)
      (onto done items)
  follows_on [] seen known items d b e f = rw (d.1, d.0) at f
  follows_on (Looked kind addr smm look ∷ before) seen known items d b e f =
      let older : List MapChange = d.0 in let one = d.1 in
      let rest : Follows setup whole actor seen look.version items = rw (← one.saw.version) at f in
      follows_on before seen older (Looked kind addr smm look ∷ items) d.2 b
      (begins_trans older known (map_writes_of setup whole) one.later e) (
        omega (arith, extends_length older known one.later, one.saw.version),
        omega (arith, extends_length known (map_writes_of setup whole) e, one.saw.version),
        right known kind addr smm look one.saw e,
        rest,
      )
  follows_on (Went version event ∷ before) seen known items d b e f =
      let was : List Entry = d.0 in let older : List MapChange = d.1 in let one = d.2 in
      let place : Begins (one.entry ∷ one.list) whole = rw one.now_is at b in
      let inside : Begins one.list whole = begins_before one.entry one.list whole place in
      let less = extends_length older (map_writes_of setup one.list) one.meets in
      let call : IsCall setup whole actor was (length older) event version one.list one.entry =
      grind (arith, one, place, less, d.3, d.4) in
      let rest : Follows setup whole actor (one.entry ∷ one.list) (version_of setup (one.entry ∷ one.list)) items =
      rw (one.known_is, one.now_is) at f in
      follows_on before was older (Went version event ∷ items) d.5 (begins_trans was one.list whole one.begins inside)
      (begins_trans older (map_writes_of setup one.list) (map_writes_of setup whole) one.meets
      (rw inside.1 (writes_extend setup inside.0 one.list)))
      (one.list, one.entry, call, rest)

-- ---- where a processor stands

-- P holds of the version of a look that comes next
abbrev pub FirstLook : (ℕ → Type 0) → List Done → Type 0
FirstLook P [] = Unit {0}
FirstLook P (Went after event ∷ items) = Unit {0}
FirstLook P (Looked kind addr smm look ∷ items) = P look.version

pub first_goes : (P Q : ℕ → Type 0) → ((n : ℕ) → P n → Q n) → (items : List Done) → FirstLook P items
    → FirstLook Q items
first_goes P Q goes items first = grind (arith, goes)

pub first_all : (P : ℕ → Type 0) → ((n : ℕ) → P n) → (items : List Done) → FirstLook P items
first_all P all items = grind (arith, all)

-- a look that comes next has at least so many map writes
abbrev pub Late : ℕ → List Done → Type 0
Late n items = FirstLook (λ k. n ≤ k) items

-- what a processor has still to do after a history of the bus, which is whole later
pub record Waits (setup : Setup) (whole before : List Entry) (actor : ℕ) (items : List Done) : Type 0 where
  pub from : List Entry
  pub low : ℕ
  pub mine : entries_by actor before ≡ entries_by actor from
  pub follows : Follows setup whole actor from low items

pub late_by : {setup : Setup} {whole before : List Entry} {actor n : ℕ} {items : List Done}
    (w : Waits setup whole before actor items) → n ≤ w.low → Late n items
late_by {items = items} w le = let f = w.follows in grind arith

-- what comes first went through the turn
abbrev pub GoesFirst : List Done → Type 0
GoesFirst (Went version event ∷ items) = Unit {0}
GoesFirst _ = ⊥

-- this call of the bus is the processor's next statement
pub record IsNextCall (setup : Setup) (whole : List Entry) (entry : Entry) (before : List Entry) (items : List Done)
    : Type 0 where
  pub version_is : (v : ℕ) → noted v items ≡ version_of setup (entry ∷ before)
  pub call : is_look entry.event ≡ false
  pub goes : GoesFirst items
  pub events : map event_of items ≡ entry.event ∷ map event_of (without_first items)
  pub rest : Waits setup whole (entry ∷ before) entry.actor (without_first items)
  pub late : Late (version_of setup (entry ∷ before)) (without_first items)

module _ (setup : Setup) (whole : List Entry) where
  -- what a processor knew is in the history before its next call
  until_call : (entry : Entry) (before from : List Entry) (low : ℕ) (items : List Done) → Begins (entry ∷ before) whole
      → Follows setup whole entry.actor from low items → entries_by entry.actor before ≡ entries_by entry.actor from
      → low ≤ version_of setup before
  until_call entry before from low [] b f n = grind (arith, own_later entry.actor entry before whole b refl)
  until_call entry before from low (Looked kind addr smm look ∷ items) b f n =
      omega (arith, f.0, until_call entry before from look.version items b f.3 n)
  until_call entry before from low (Went after event ∷ items) b f n =
      let call = f.2 in
      let one = same_place entry.actor whole f.1 entry f.0 before call.place b call.own refl (call.next ∙ sym n) in
      rw one.1 at call.known

  pub next_call : (entry : Entry) (before : List Entry) (items : List Done) → Begins (entry ∷ before) whole
      → Waits setup whole before entry.actor items → Late (version_of setup before + 1) items
      → IsNextCall setup whole entry before items
  next_call entry before [] b w late =
      let f = w.follows in absurd (grind (arith, own_later entry.actor entry before whole b refl, w.mine))
  next_call entry before (Looked kind addr smm look ∷ items) b w late =
      absurd (omega (arith, until_call entry before w.from look.version items b w.follows.3 w.mine, late))
  next_call entry before (Went after event ∷ items) b w late =
      let f = w.follows in let call = f.2 in
      let one = same_place entry.actor whole f.1 entry f.0 before call.place b call.own refl (call.next ∙ sym w.mine) in
      let next : f.1 ∷ f.0 ≡ entry ∷ before = cc (one.0, one.1) in
      let rest : Waits setup whole (entry ∷ before) entry.actor items = record {
        from = f.1 ∷ f.0;
        low = version_of setup (f.1 ∷ f.0);
        mine = ap (entries_by entry.actor) (sym next);
        follows = f.3;
      } in
      let late : Late (version_of setup (entry ∷ before)) items =
      late_by rest (omega (arith, ap (version_of setup) next)) in
      grind (arith, one, call, rest, late)

  -- at the end nothing is left
  pub none_left : (actor : ℕ) (before : List Entry) (items : List Done) → whole ≡ before
      → Waits setup whole before actor items → Late (version_of setup before + 1) items → items ≡ []
  none_left actor before [] is w late = refl
  none_left actor before (Looked kind addr smm look ∷ items) is w late =
      absurd (omega (arith, ap (version_of setup) is, w.follows.1, late))
  none_left actor before (Went after event ∷ items) is w late = let f = w.follows in let call = f.2 in
      grind (arith, own_later actor f.1 f.0 whole call.place call.own, call.next, w.mine)
