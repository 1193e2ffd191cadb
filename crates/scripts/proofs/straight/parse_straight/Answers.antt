use Rattle.scripts.proofs.StraightLemmas.{line_straight, line_said}
use Rattle.scripts.proofs.straight.parse_straight.Goals as goal

pub returns-clause-says : goal.returns-clause-says
returns-clause-says c =
    line_straight c.args.version _ _ c.args.line.now _ _ c.in_ok-digit.ensures.first c.in_ok-actor.ensures.number
    c.in_ok-event.ensures.event

pub returns-clause-read : goal.returns-clause-read
returns-clause-read c = line_said _ _ c.args.line.now _ c.in_ok-digit.ensures.first c.in_ok-actor.ensures.number
