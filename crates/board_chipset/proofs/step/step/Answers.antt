use Rattle.std.proofs.Common.{◌∙◌}
use Rattle.board_chipset.proofs.step.step.Goals as goal

pub returns-in-Memory-clause-board : goal.returns-in-Memory-clause-board
returns-in-Memory-clause-board c = λ setup history entry kept image event replied.
    c.access.ensures.board setup history entry kept image (event ∙ c.in-Memory.is) (replied ∙ c.reply.ensures.reply)

pub returns-in-Wide-clause-board : goal.returns-in-Wide-clause-board
returns-in-Wide-clause-board c = λ setup history entry kept image event replied.
    c.access-in-Wide.ensures.board setup history entry kept image (event ∙ c.in-Wide.is)
    (replied ∙ c.reply-in-Wide.ensures.reply)

pub returns-in-Port-clause-board : goal.returns-in-Port-clause-board
returns-in-Port-clause-board c = λ setup history entry kept image event replied.
    c.access-in-Port.ensures.board setup history entry kept (event ∙ c.in-Port.is)
    (replied ∙ c.reply-in-Port.ensures.reply)

pub returns-in-Look-clause-board : goal.returns-in-Look-clause-board
returns-in-Look-clause-board c = λ setup history entry kept image event replied.
    c.look.ensures.board setup history entry kept (event ∙ c.in-Look.is)

pub returns-in_default-clause-board : goal.returns-in_default-clause-board
returns-in_default-clause-board c = λ setup history entry kept image event replied.
    c.answer.ensures.board setup history entry kept event
