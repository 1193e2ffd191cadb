use Rattle.std.proofs.Common.{rules, ◌≡◌, ◌<◌, List, [], ◌∷◌, ◌++◌, length, refl, sym, ◌∙◌, ap, arith, append_assoc}
use Rattle.std.proofs.lemmas.List.Elements.{All-append}
use Rattle.board_prelude.proofs.{All-cons, events_by, into_iter_items, length-append, map-append}
use Rattle.phase_threads.specs.declared.worker.Work.{Work}
use Rattle.phase_threads.specs.Works.{page}
use Rattle.phase_threads.specs.Jobs.{pages_in}
use Rattle.phase_threads.proofs.Numbers.{due_more, pages_length}
use Rattle.phase_threads.proofs.jobs.next_works.Goals as goal

pub loop-work-preserved : goal.loop-work-preserved
loop-work-preserved c =
    let l = c.loop-work in let was = l.invariant in let work : Work = c.in_ok-work.work in
    let given : Work = c.in-Some.work in let rest : List Work = into_iter_items c.next.new.self in
    let steps : into_iter_items l.work-iterator ≡ given ∷ rest = c.in-Some.ensures.steps.0 in
    let whole : l.yielded ++ given ∷ rest ≡ c.args.works.items = rw steps at was.left in
    let items : c.push.new.self.items ≡ l.next.items ++ work ∷ [] = search rules in
    let many = pages_length l.yielded l.next.items was.pages in
    let small : length l.next.items < 256 =
    omega (arith, many, ap length whole, length-append l.yielded (given ∷ rest), c.requires.few) in
    let own = c.own_in-own.ensures.own (length l.next.items) small in
    let due : work.due ≡ length (events_by (length l.next.items) c.args.phase.now) =
    grind (arith, c.in_ok-work.ensures.due, own, c.len-in-loop-work.ensures) in
    let pages : pages_in c.push.new.self.items ≡ pages_in (l.yielded ++ given ∷ []) =
    ap pages_in items ∙ (map-append page l.next.items (work ∷ [])
    ∙ rw (was.pages, c.in_ok-work.ensures.lines) (sym (map-append page l.yielded (given ∷ [])))) in
    record {
      left = append_assoc l.yielded (given ∷ []) rest ∙ whole;
      len = grind (arith, steps, was.len, c.in-Some.ensures);
      pages = pages;
      empty =
          rw items (All-append (λ (w : Work). w.done.items ≡ []) l.next.items (work ∷ []) was.empty
          (All-cons (λ (w : Work). w.done.items ≡ []) work [] c.in_ok-work.ensures.empty
          (λ k d less. absurd (omega (arith, less)))));
      keeps =
          rw items (All-append (λ (w : Work). w.keeps ≡ c.args.keeps) l.next.items (work ∷ []) was.keeps
          (All-cons (λ (w : Work). w.keeps ≡ c.args.keeps) work [] c.in_ok-work.ensures.keeps
          (λ k d less. absurd (omega (arith, less)))));
      due = due_more l.next.items work c.args.phase.now (length l.next.items) c.push.new.self.items items refl was.due
          due;
    }
