use Rattle.config_regs.proofs.reading.read_byte.Goals as goal

pub returns-in-Ide : goal.returns-in-Ide
returns-in-Ide c = record {
  byte = λ setup bytes is has.
      let of = rw c.in-Ide.is at c.requires.function in
      rw (of.0, of.1) (c.read.ensures.byte bytes is.south.ide);
}

pub returns-in-Card : goal.returns-in-Card
returns-in-Card c = record {
  byte = λ setup bytes is has.
      let of = rw c.in-Card.is at c.requires.function in
      rw of.1 (c.card_byte.ensures.byte setup bytes (rw c.deref.ensures.0 is.cards));
}
