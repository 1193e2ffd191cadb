use Rattle.std.proofs.Common.{sym}
use Rattle.board_chipset.proofs.memory.access.Goals as goal

pub decoded_elsewhere-answer-requires-clause-elsewhere : goal.decoded_elsewhere-answer-requires-clause-elsewhere
decoded_elsewhere-answer-requires-clause-elsewhere c = λ setup bytes stands.
    sym (c.in-None.ensures.row setup bytes stands)
