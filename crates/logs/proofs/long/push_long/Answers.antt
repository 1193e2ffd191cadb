use Rattle.logs.proofs.Joined.{appended_twice, front_more, numbered_tail}
use Rattle.logs.proofs.long.push_long.Goals as goal

pub returns-clause-appended : goal.returns-clause-appended
returns-clause-appended c =
    appended_twice _ _ _ _ _ _ _ c.in_ok-push_number.ensures.appended c.push_long_tail.ensures.appended
    (numbered_tail c.args.n c.args.entry.now)

pub returns-clause-front : goal.returns-clause-front
returns-clause-front c = front_more _ _ _ _ _ c.in_ok-push_number.ensures.appended c.push_long_tail.ensures.front
