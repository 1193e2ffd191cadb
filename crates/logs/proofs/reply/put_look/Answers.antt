use Rattle.std.proofs.Common.{◌∷◌}
use Rattle.board_prelude.specs.{space, hex_long, area_text}
use Rattle.logs.proofs.Joined.{number_put}
use Rattle.logs.proofs.reply.put_look.Goals as goal

pub returns-clause-words : goal.returns-clause-words
returns-clause-words c =
    number_put _ c.args.look.version (space ∷ hex_long c.args.look.lo) (space ∷ hex_long c.args.look.hi)
    (space ∷ area_text c.args.look.area) c.args.line.now _ _ c.from.ensures c.put_seen.ensures.words
    c.put_decimal.ensures.words
