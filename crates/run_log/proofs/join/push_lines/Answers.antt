use Rattle.std.proofs.Common.{◌+◌, ◌-◌, ◌<◌, ◌++◌, ◌∷◌, ℕ, List, [], length, get_or, drop, sym, ◌∙◌, ap}
use Rattle.std.proofs.Common.{arith, decimal, refl}
use Rattle.board_prelude.proofs.{get_or_default, length-set, space}
use Rattle.logs.proofs.Join.{line_added}
use Rattle.run_order.specs.Over.{nowhere}
use Rattle.run_log.proofs.PieceLaws.{no_lines}
use Rattle.run_log.proofs.Picks.{count_fits, counts_next, line_at, numbered}
use Rattle.run_log.proofs.join.push_lines.Goals as goal

pub loop-i-init : goal.loop-i-init
loop-i-init c = record {
  later = omega arith;
  counts = c.requires.counts;
  each = c.requires.each;
  lines = λ entries are. no_lines (c.args.start + 1) (c.args.start - c.args.start) (drop c.args.start entries) _
      (omega arith);
}

pub overflow_add-counts : goal.overflow_add-counts
overflow_add-counts c =
    let l = c.loop-i in let order = c.args.order.now in
    let less : l.i < length order = omega (arith, c.loop-i-test.true, c.requires.within) in
    let known = c.requires.lines.1.callers l.i 0 less in
    let below : c.from-actor.result < length l.counts = omega (arith, known, c.from-actor.ensures, l.invariant.each) in
    let fits = count_fits l.counts order l.i c.from-actor.result l.invariant.counts below (omega (arith, less)) in
    record { fits = omega (arith, fits, c.loop-i-test.true, c.ranges.end.fits) }

pub line-requires : goal.line-requires
line-requires c =
    let l = c.loop-i in let order = c.args.order.now in let lines = c.args.lines.now in
    let less : l.i < length order = omega (arith, c.loop-i-test.true, c.requires.within) in
    let known = c.requires.lines.1.callers l.i 0 less in
    let below : c.from-actor.result < length l.counts = omega (arith, known, c.from-actor.ensures, l.invariant.each) in
    let at = line_at lines order c.requires.lines.0 l.i c.from-actor.result (get_or l.counts c.from-actor.result 0)
    nowhere c.requires.lines.1 less c.from-actor.ensures (l.invariant.counts c.from-actor.result below) in
    let same = c.index-lines-actor.is ∙ get_or_default lines c.from-actor.result c.index-lines-actor.result [] at.known in
    record { within = omega (arith, at.within, ap length same) }

pub loop-i-preserved : goal.loop-i-preserved
loop-i-preserved c =
    let l = c.loop-i in let order = c.args.order.now in let lines = c.args.lines.now in
    let actor = c.from-actor.result in let place = get_or l.counts actor 0 in
    let less : l.i < length order = omega (arith, c.loop-i-test.true, c.requires.within) in
    let known = c.requires.lines.1.callers l.i 0 less in
    let below : actor < length l.counts = omega (arith, known, c.from-actor.ensures, l.invariant.each) in
    record {
      later = omega (arith, l.invariant.later);
      counts = counts_next l.counts order l.i actor (place + 1) l.invariant.counts less c.from-actor.ensures below refl;
      each = length-set l.counts actor (place + 1) ∙ l.invariant.each;
      lines = λ entries are.
          let at = line_at lines order entries l.i actor place nowhere are less c.from-actor.ensures
          (l.invariant.counts actor below) in
          let same = c.index-lines-actor.is ∙ get_or_default lines actor c.index-lines-actor.result [] at.known in
          let line = sym c.line.ensures.line ∙ (ap (λ (ls : List (List ℕ)). get_or ls place []) same ∙ at.line) in
          let text : List ℕ = l.text.items in
          let added = c.in_ok-push_numbered.ensures.appended
          ∙ (ap (λ (t : List ℕ). text ++ (decimal (l.i + 1) ++ space ∷ t)) line
          ∙ ap (λ (t : List ℕ). text ++ t) (numbered (l.i + 1) (get_or entries l.i nowhere))) in
          line_added c.args.start l.i entries (get_or entries l.i nowhere) l.invariant.later at.inside
          (get_or_default entries l.i (get_or entries l.i nowhere) nowhere at.inside) _ _ _
          (l.invariant.lines entries are) added;
    }
