-- One statement more, and its line.
use Rattle.std.proofs.Common.{◌≡◌, ℕ, ◌++◌, ◌+◌, length, Bool, true, false, List, [], ◌∷◌, reverse, refl, sym, ◌∙◌, ap}
use Rattle.std.proofs.Common.{arith}
use Rattle.std.proofs.Common.{append_assoc}
use Rattle.board_prelude.proofs.{reverse-append, map-append, Event, Reply, Entry, MapChange, Setup, entries_by}
use Rattle.run_order.specs.declared.done.Done.{Done}
use Rattle.run_order.specs.declared.done.Done.TheVariants.{Went, Looked}
use Rattle.run_order.specs.Placing.{event_of, is_look}
use Rattle.run_order.specs.Room.{looks_in}
use Rattle.run_order.specs.Trace.{IsDone}
use Rattle.run_order.specs.Written.{written, next_own}
use Rattle.run_order.proofs.Counts.{looks_append}
use Rattle.run_log.specs.Lines.{lines_of}
use Rattle.phase_threads.specs.declared.worker.Work.{Work}
use Rattle.phase_threads.specs.Works.{HasDone, IsKept, IsTold, Page, page_of}

-- the calls that a statement made, and the entry that it adds
record Adds (actor : ℕ) (event : Event) (reply : Reply) (one : Done) (was now own : List Entry) : Type 0 where
  pub calls : List Entry
  pub called : now ≡ reverse calls ++ was
  pub line :
      (more : List Done) (later : List Entry) →
      written actor (one ∷ more) (calls ++ later) own
      ≡ written actor more later (next_own actor own event reply ∷ own)

adds : (actor : ℕ) (event : Event) (reply : Reply) (one : Done) (was now own : List Entry) → event_of one ≡ event
    → IsTold event reply one was now → Adds actor event reply one was now own
unfolding written
adds actor event reply (Looked kind addr smm look) was now own said is =
    record { calls = []; called = is.1; line = λ more later. rw (sym said, is.0) refl }
adds actor event reply (Went version asked) was now own said is = record {
  calls = is.0 ∷ [];
  called = is.3;
  line = λ more later. rw (sym is.1, sym is.2) refl;
}

called_more : (calls more was now own : List Entry) → was ≡ reverse calls ++ own → now ≡ reverse more ++ was
    → now ≡ reverse (calls ++ more) ++ own
called_more calls more was now own before after =
    after ∙ (ap (λ (h : List Entry). reverse more ++ h) before ∙ (sym (append_assoc (reverse more) (reverse calls) own)
    ∙ ap (λ (h : List Entry). h ++ own) (sym (reverse-append calls more))))

line_more : (entry : Entry) (told : List Entry) (lines lines' : List (List ℕ)) (asked asked' : ℕ)
    → (lines, asked) ≡ page_of told → lines' ≡ lines ++ lines_of (entry ∷ []) → asked' ≡ asked + 1
    → (lines', asked') ≡ page_of (entry ∷ told)
line_more entry told lines lines' asked asked' was more next =
    let count : asked ≡ length told = ap (λ (p : Page). p.1) was in
    let text : lines ≡ lines_of (reverse told) = ap (λ (p : Page). p.0) was in
    let turned = reverse-append (entry ∷ []) told in
    let joined : lines_of (reverse told ++ entry ∷ []) ≡ lines_of (reverse told) ++ lines_of (entry ∷ []) =
    map-append _ (reverse told) (entry ∷ []) in
    let lines_is : lines' ≡ lines_of (reverse (entry ∷ told)) =
    more ∙ (ap (λ (ls : List (List ℕ)). ls ++ lines_of (entry ∷ [])) text ∙ (sym joined ∙ ap lines_of (sym turned))) in
    let asked_is : asked' ≡ length (entry ∷ told) = omega (arith, next, count) in
    rw (lines_is, asked_is) refl

no_look : (one : Done) → is_look (event_of one) ≡ false → looks_in (one ∷ []) ≡ 0
no_look one is = grind (arith, is)

kept_more : (keeps : Bool) (kept kept' done : List Done) (one : Done) → IsKept keeps kept done
    → (keeps ≡ true → kept' ≡ kept ++ one ∷ []) → (keeps ≡ false → kept' ≡ kept)
    → (keeps ≡ false → is_look (event_of one) ≡ false) → IsKept keeps kept' (done ++ one ∷ [])
kept_more true kept kept' done one is more same plain = more refl ∙ ap (λ (xs : List Done). xs ++ one ∷ []) is
kept_more false kept kept' done one is more same plain = (
  ap looks_in (same refl) ∙ is.0,
  grind (arith, looks_append done (one ∷ []), no_look one (plain refl), is.1),
)

pub one_more : {setup : Setup} {actor : ℕ} {opened : List Entry} {events : List Event} {own : List Entry}
    {keeps : Bool} {was : Work} {seen : List Entry} {known : List MapChange} (now : Work) (event : Event)
    (reply : Reply) (one : Done)
    (seen' : List Entry) (known' : List MapChange) → HasDone setup actor opened events own keeps was seen known
    → ((done : List Done) → IsDone setup actor opened done seen known
    → IsDone setup actor opened (one ∷ done) seen' known')
    → event_of one ≡ event → IsTold event reply one (entries_by actor seen) (entries_by actor seen')
    → (entry : Entry) → now.lines ≡ was.lines ++ lines_of (entry ∷ []) → now.asked ≡ was.asked + 1
    → entry ≡ record { actor = actor; seq = was.asked + 1; event = event; reply = reply }
    → (keeps ≡ true → now.done.items ≡ was.done.items ++ one ∷ [])
    → (keeps ≡ false → now.done.items ≡ was.done.items)
    → (keeps ≡ false → is_look event ≡ false)
    → HasDone setup actor opened (events ++ event ∷ []) own keeps now seen' known'
one_more {actor = actor} {opened = opened} {keeps = keeps} {was = was} {seen = seen} now event reply one seen' known' h
    step said is entry line asked entry_is kept same plain =
    let a = adds actor event reply one (entries_by actor seen) (entries_by actor seen') h.told said is in
    let count : was.asked ≡ length h.told = ap (λ (p : Page). p.1) h.lines in
    let next : entry ≡ next_own actor h.told event reply =
    entry_is ∙ ap (λ (n : ℕ). record { actor = actor; seq = n + 1; event = event; reply = reply }) count in
    record {
      done = h.done ++ one ∷ [];
      trace = rw (reverse-append h.done (one ∷ [])) (step (reverse h.done) h.trace);
      said = map-append event_of h.done (one ∷ []) ∙ rw (h.said, said) refl;
      calls = h.calls ++ a.calls;
      called = called_more h.calls a.calls (entries_by actor seen) (entries_by actor seen') (entries_by actor opened)
          h.called a.called;
      told = entry ∷ h.told;
      adds = λ more later.
          rw (append_assoc h.done (one ∷ []) more, append_assoc h.calls a.calls later)
          (h.adds (one ∷ more) (a.calls ++ later) ∙ (a.line more later
          ∙ ap (λ (e : Entry). written actor more later (e ∷ h.told)) (sym next)));
      lines = line_more entry h.told was.lines now.lines was.asked now.asked h.lines line asked;
      kept = kept_more keeps was.done.items now.done.items h.done one h.kept kept same
          (λ off. ap is_look said ∙ plain off);
    }
