use Rattle.board_image.proofs.event_reader.can_have.Goals as goal

pub returns-in-Wire : goal.returns-in-Wire
returns-in-Wire c = record { number = λ setup same. rw (c.in-Wire.is, same) c.has_card.ensures.card }
