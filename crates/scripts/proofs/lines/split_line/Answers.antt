use Rattle.std.proofs.Common.{arith, subst}
use Rattle.board_prelude.proofs.{common_steps, nat_tests}
use Rattle.memchr.specs.Find.{IsFirstByte}
use Rattle.scripts.proofs.LineLemmas.{is_feed, cut_at, uncut, none_left, begun_empty}
use Rattle.scripts.proofs.lines.split_line.Goals as goal

pub returns-then-bytes-eq-LINE_FEED-clause-cases : goal.returns-then-bytes-eq-LINE_FEED-clause-cases
returns-then-bytes-eq-LINE_FEED-clause-cases c = begun_empty _ c.if-is_empty.ensures c.if-bytes-eq-LINE_FEED.true

pub returns-in-Some-clause-cases : goal.returns-in-Some-clause-cases
returns-in-Some-clause-cases c = cut_at _ _ (subst (IsFirstByte is_feed c.args.bytes.now) c.in-Some.is c.memchr.ensures)

pub returns-in-None-clause-cases : goal.returns-in-None-clause-cases
returns-in-None-clause-cases c = grind (arith, nat_tests, common_steps, uncut, is_feed)

pub returns-then-is_empty-clause-cases : goal.returns-then-is_empty-clause-cases
returns-then-is_empty-clause-cases c = none_left c.args.bytes.now c.if-is_empty.ensures
