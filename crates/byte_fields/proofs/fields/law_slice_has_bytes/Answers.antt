use Rattle.std.proofs.Common.{arith}
use Rattle.byte_fields.proofs.fields.law_slice_has_bytes.Goals as goal

pub returns : goal.returns
returns c = record { bytes = λ k. omega (arith, c.type_inv.bytes k) }
