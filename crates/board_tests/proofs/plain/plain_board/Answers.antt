use Rattle.std.proofs.Common.{sym, subst, arith}
use Rattle.board_prelude.proofs.{All-nil, IsCard, IsCardList}
use Rattle.board_tests.proofs.plain.plain_board.Goals as goal

pub open-requires-clause-cards : goal.open-requires-clause-cards
open-requires-clause-cards c =
    subst IsCardList (sym c.new.ensures.items)
    (record { count = omega arith; each = All-nil IsCard; rises = tt })
