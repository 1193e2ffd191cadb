use Rattle.std.proofs.Common.{ℕ, ◌%◌, ap}
use Rattle.machine_records.proofs.PortCycles.{bit_above}
use Rattle.machine_records.proofs.port_access.low_bytes.Goals as goal

pub returns : goal.returns
returns c = record { low = ap (λ (n : ℕ). c.args.value % n) (bit_above c.args.bytes c.requires.few) }
