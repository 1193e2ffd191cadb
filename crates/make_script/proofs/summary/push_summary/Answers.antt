use Rattle.std.proofs.Common.{ℕ, ◌++◌, reverse, sym, ap, ◌∙◌}
use Rattle.board_prelude.proofs.{length-reverse, version_of}
use Rattle.logs.proofs.Joined.{appended_twice, front_more}
use Rattle.script_spec.specs.Lines.{text_of_lines}
use Rattle.make_script.specs.Summary.{entry_lines, map_lines, summary_of}
use Rattle.make_script.proofs.MadeLemmas.{text-append}
use Rattle.make_script.proofs.summary.push_summary.Goals as goal

pub returns-clause-appended : goal.returns-clause-appended
unfolding summary_of
returns-clause-appended c setup writes =
    let history = reverse c.args.entries.now in
    appended_twice c.push_map_lines.result _ _ _ _ _ _
    (c.in_ok-push_counts.ensures.appended history (c.len.ensures.length ∙ sym (length-reverse c.args.entries.now))
    c.counts_of.ensures.counts)
    c.push_map_lines.ensures.appended
    (text-append (entry_lines history) (map_lines (version_of setup history) c.args.ranges)
    ∙ ap (λ (n : ℕ). text_of_lines (entry_lines history) ++ text_of_lines (map_lines n c.args.ranges)) (sym writes))

pub returns-clause-front : goal.returns-clause-front
returns-clause-front c =
    front_more c.push_map_lines.result _ _ _ _
    (c.in_ok-push_counts.ensures.appended (reverse c.args.entries.now) (c.len.ensures.length
    ∙ sym (length-reverse c.args.entries.now))
    c.counts_of.ensures.counts)
    c.push_map_lines.ensures.front
