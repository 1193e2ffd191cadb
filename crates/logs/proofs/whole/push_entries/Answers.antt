use Rattle.std.proofs.Common.{◌≡◌, ◌+◌, ◌-◌, ℕ, List, take, drop, subst, arith}
use Rattle.board_prelude.proofs.{take_all, Entry}
use Rattle.logs.specs.Adds.{AddsWords}
use Rattle.logs.specs.LinesFrom.{lines_from}
use Rattle.logs.proofs.Join.{no_lines, line_added}
use Rattle.logs.proofs.whole.push_entries.Goals as goal

pub loop-i-init : goal.loop-i-init
loop-i-init c = record {
  later = omega arith;
  lines = no_lines (0 + 1) (0 - 0) (drop 0 c.args.entries.now) _ (omega arith);
}

pub loop-i-preserved : goal.loop-i-preserved
loop-i-preserved c =
    let l = c.loop-i in
    record {
      later = omega arith;
      lines = line_added 0 l.i c.args.entries.now c.entry.result l.invariant.later
          (omega (arith, c.loop-i-test.true, c.len-count.ensures)) (c.entry.ensures.entry c.entry.result) _ _ _
          l.invariant.lines
          c.in_ok-push_line.ensures.appended;
    }

pub returns : goal.returns
returns c =
    let l = c.loop-i in
    let entries : List Entry = c.args.entries.now in
    let last : l.i ≡ c.len-count.result = omega (arith, c.loop-i-test.false, l.auto.i-end) in
    let all = take_all (c.len-count.result - 0) entries (omega (arith, c.len-count.ensures)) in
    record {
      appended = subst (λ (es : List Entry). AddsWords c.args.text.now l.text (lines_from 1 es)) all
          (subst (λ (n : ℕ). AddsWords c.args.text.now l.text (lines_from 1 (take (n - 0) (drop 0 entries)))) last
          l.invariant.lines);
    }
