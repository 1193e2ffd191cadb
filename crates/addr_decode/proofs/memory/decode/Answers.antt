use Rattle.std.proofs.Common.{sym}
use Rattle.addr_decode.proofs.memory.decode.Goals as goal

pub decode_elsewhere-requires-clause-elsewhere : goal.decode_elsewhere-requires-clause-elsewhere
decode_elsewhere-requires-clause-elsewhere c = λ setup bytes stands. sym (c.in-None.ensures.row setup bytes stands)
