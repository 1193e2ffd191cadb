use Rattle.board_prelude.proofs.{nat_tests}
use Rattle.std.proofs.Common.{◌+◌, inl, arith, rules}
use Rattle.addr_decode.specs.MapRegs.{map_bytes}
use Rattle.addr_decode.specs.Singles.{single}
use Rattle.addr_decode.proofs.CardLemmas.{cards_stay, of_registers}
use Rattle.addr_decode.proofs.SingleLemmas.{single_is}
use Rattle.addr_decode.proofs.StandsLemmas.{window_stored, row_stored, stored_apart, card_apart}
use Rattle.addr_decode.proofs.regs.MapRegs.set.Goals as goal

pub returns-in-Pam-clause-stands : goal.returns-in-Pam-clause-stands
returns-in-Pam-clause-stands c = λ setup bytes stands.
    let small = rw c.in-Pam.is at c.requires.number in
    rw c.in-Pam.is
    (window_stored setup bytes _ stands c.args.byte c.requires.cards c.ranges.byte.fits c.store_pam.new.pam
    (0x59 + c.in-Pam.number) (omega (arith, small), omega (arith, small))
    (c.store_pam.ensures.stored setup bytes stands.windows))

pub returns-in-Pam-clause-cards : goal.returns-in-Pam-clause-cards
returns-in-Pam-clause-cards c = grind (arith, nat_tests)

pub returns-in-RowBoundary-clause-stands : goal.returns-in-RowBoundary-clause-stands
returns-in-RowBoundary-clause-stands c = λ setup bytes stands.
    rw (c.in-RowBoundary.is, c.from.ensures)
    (row_stored setup bytes (map_bytes c.args.self.now) stands c.args.byte c.requires.cards c.ranges.byte.fits
    c.in-RowBoundary.row (search rules) (rw c.in-RowBoundary.is at c.requires.number))

pub returns-in-RowBoundary-clause-cards : goal.returns-in-RowBoundary-clause-cards
returns-in-RowBoundary-clause-cards c = grind (arith, nat_tests)

pub returns-in-Single-clause-stands : goal.returns-in-Single-clause-stands
returns-in-Single-clause-stands c = λ setup bytes stands.
    rw (c.in-Single.is, ← c.into.ensures) (c.set_single.ensures.stands setup bytes stands)

pub returns-in-Single-clause-cards : goal.returns-in-Single-clause-cards
returns-in-Single-clause-cards c = λ setup bytes are.
    let place = single_is _ (rw c.in-Single.is at c.requires.number) in
    rw (c.in-Single.is, c.set_single.ensures.cards) (cards_stay (of_registers setup) _ _ are
    (single c.in-Single.number) c.args.byte c.requires.cards.each c.ranges.byte.fits (inl place.low))

pub returns-in-Card-clause-stands : goal.returns-in-Card-clause-stands
returns-in-Card-clause-stands c = λ setup bytes stands.
    let number = rw c.in-Card.is at c.requires.number in
    rw (c.in-Card.is, ← c.offset.ensures.offset) (stored_apart _ _ _ stands _ _ _ (card_apart _ number.0)
    (c.write_card.ensures.decoded setup bytes stands.cards))

pub returns-in-Card-clause-cards : goal.returns-in-Card-clause-cards
returns-in-Card-clause-cards c = λ setup bytes are.
    rw (c.in-Card.is, ← c.offset.ensures.offset) (c.write_card.ensures.written setup bytes are)
