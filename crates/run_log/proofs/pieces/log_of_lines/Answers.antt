use Rattle.std.proofs.Common.{ℕ, ◌++◌, ◌*◌, ◌≤◌, List, length, ap, sym, ◌∙◌}
use Rattle.board_prelude.proofs.{take_all, length-map, Entry}
use Rattle.logs.specs.LinesFrom.{lines_from}
use Rattle.logs.proofs.Parts.{log_text-lines}
use Rattle.run_log.proofs.pieces.log_of_lines.Goals as goal

pub returns-then-workers-lt2 : goal.returns-then-workers-lt2
returns-then-workers-lt2 g c = record {
  text = λ entries are.
      c.in_ok-push_whole.ensures.added entries are
      ∙ (ap (λ (text : List ℕ). text ++ lines_from 1 entries) c.in_ok-text.ensures.text
      ∙ sym (log_text-lines c.args.version entries));
}

pub returns : goal.returns
returns g c = record {
  text = λ entries are.
      let size : ℕ = c.div_ceil-size.result in let count : ℕ = length c.in_ok-pieces.pieces.items in
      let many = ap length are.actors ∙ length-map entries (λ (e : Entry). e.actor) in
      let all : length entries ≤ count * size = rw many at c.in_ok-pieces.ensures.all in
      c.in_ok-push_pieces.ensures.added size entries (c.in_ok-pieces.ensures.pieces entries are)
      ∙ (ap (λ (es : List Entry). c.in_ok-text.text ++ lines_from 1 es) (take_all (count * size) entries all)
      ∙ (ap (λ (text : List ℕ). text ++ lines_from 1 entries) c.in_ok-text.ensures.text
      ∙ sym (log_text-lines c.args.version entries)));
}
