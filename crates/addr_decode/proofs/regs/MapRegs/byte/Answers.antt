use Rattle.addr_decode.proofs.regs.MapRegs.byte.Goals as goal

pub returns-in-Card : goal.returns-in-Card
returns-in-Card c = record {
  byte = rw c.in-Card.is
      (λ setup bytes stands is.
      rw (← c.offset.ensures.offset)
      (c.byte_of.ensures.byte setup bytes (rw c.deref.ensures.0 stands.cards)
      (rw (← c.offset.ensures.offset) at is) (rw c.in-Card.is at c.requires.number).0));
}
