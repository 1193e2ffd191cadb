use Rattle.std.proofs.Common.{arith}
use Rattle.addr_decode.proofs.state.are_doublewords.Goals as goal

pub returns : goal.returns
returns c = record { doublewords = λ k. omega (arith, c.type_inv.values k) }
