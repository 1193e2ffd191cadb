use Rattle.addr_decode.proofs.NameLemmas.{one_name}
use Rattle.addr_decode.proofs.regs.MapRegs.name_of.Goals as goal

pub returns-in-Card : goal.returns-in-Card
returns-in-Card c = record { named = one_name _ _ _ (rw c.deref.ensures.0 at c.named_at.ensures.named) }
