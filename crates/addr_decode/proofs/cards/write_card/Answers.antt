use Rattle.std.proofs.Common.{sym}
use Rattle.addr_decode.proofs.CardLemmas.{card_written, card_kept, no_card_written, of_decoded, of_registers}
use Rattle.addr_decode.proofs.cards.write_card.Goals as goal

pub returns-in-Some-get_mut-clause-decoded : goal.returns-in-Some-get_mut-clause-decoded
returns-in-Some-get_mut-clause-decoded c = λ setup bytes are.
    card_written (of_decoded setup) bytes _ are c.args.dev c.args.off c.args.byte c.in-Some.index _ _
    c.requires.cards.rises (sym (rw c.deref.ensures.0 at c.in-Some.ensures.index)) c.in-Some-get_mut.ensures.value
    c.write.ensures.same_card (c.write.ensures.decodes setup bytes)

pub returns-in-Some-get_mut-clause-written : goal.returns-in-Some-get_mut-clause-written
returns-in-Some-get_mut-clause-written c = λ setup bytes are.
    card_written (of_registers setup) bytes _ are c.args.dev c.args.off c.args.byte c.in-Some.index _ _
    c.requires.cards.rises (sym (rw c.deref.ensures.0 at c.in-Some.ensures.index)) c.in-Some-get_mut.ensures.value
    c.write.ensures.same_card (c.write.ensures.written setup bytes)

pub returns-in-Some-get_mut-clause-same_cards : goal.returns-in-Some-get_mut-clause-same_cards
returns-in-Some-get_mut-clause-same_cards c =
    card_kept _ c.in-Some.index _ _ c.in-Some-get_mut.ensures.value c.write.ensures.same_card

pub returns-in_default-clause-decoded : goal.returns-in_default-clause-decoded
returns-in_default-clause-decoded c = λ setup bytes are.
    no_card_written (of_decoded setup) bytes _ are c.args.dev c.args.off c.args.byte
    (sym (rw c.deref.ensures.0 at c.in_default.ensures.index))

pub returns-in_default-clause-written : goal.returns-in_default-clause-written
returns-in_default-clause-written c = λ setup bytes are.
    no_card_written (of_registers setup) bytes _ are c.args.dev c.args.off c.args.byte
    (sym (rw c.deref.ensures.0 at c.in_default.ensures.index))
