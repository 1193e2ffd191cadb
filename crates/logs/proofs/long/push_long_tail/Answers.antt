use Rattle.logs.proofs.Joined.{appended_more, appended_twice, front_more, tail_text-wide}
use Rattle.logs.proofs.long.push_long_tail.Goals as goal

pub returns-clause-appended : goal.returns-clause-appended
returns-clause-appended c =
    appended_twice _ _ _ _ _ _ _
    (appended_more _ _ _ _ _ c.in_ok-push_place.ensures.appended c.in_ok-push_rest.ensures.appended)
    c.push_marked.ensures.appended
    (tail_text-wide c.args.entry.now c.args.access.now c.from.result c.requires.event c.from.ensures)

pub returns-clause-front : goal.returns-clause-front
returns-clause-front c =
    front_more _ _ _ _ _ c.in_ok-push_place.ensures.appended
    (front_more _ _ _ _ _ c.in_ok-push_rest.ensures.appended c.push_marked.ensures.front)
