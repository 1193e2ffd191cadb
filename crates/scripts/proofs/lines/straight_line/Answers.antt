use Rattle.std.proofs.Common.{◌∙◌, ap}
use Rattle.scripts.proofs.StraightLine.{asked_line}
use Rattle.script_spec.specs.Lines.{lines_of}
use Rattle.scripts.proofs.LineLemmas.{line_ended}
use Rattle.scripts.proofs.lines.straight_line.Goals as goal

pub returns-clause-cases : goal.returns-clause-cases
returns-clause-cases c =
    ap lines_of c.in_ok-line.ensures.cut ∙ line_ended _ _ (asked_line c.args.version _ _ _ c.in_ok-actor.ensures.says)
