use Rattle.std.proofs.Common.{◌≡◌, ℕ, ◌+◌, refl, arith, inr}
use Rattle.board_prelude.proofs.{Reg, card_register, reg_after}
use Rattle.addr_decode.specs.MapRegs.{map_bytes}
use Rattle.addr_decode.proofs.CardLemmas.{cards_stay, of_decoded, of_registers}
use Rattle.addr_decode.proofs.StoreLemmas.{in_function_0}
use Rattle.addr_decode.proofs.StandsLemmas.{stored_apart, nameless_apart}
use Rattle.addr_decode.proofs.regs.MapRegs.store_beside.Goals as goal

pub returns-then-is_of_bridge-clause-stands : goal.returns-then-is_of_bridge-clause-stands
returns-then-is_of_bridge-clause-stands c = λ setup bytes stands.
    let other = c.is_of_bridge.ensures.bridge c.if-is_of_bridge.true in
    stored_apart _ _ _ stands _ _ _ (nameless_apart _ _ c.requires.beside)
    (cards_stay (of_decoded setup) _ _ stands.cards _ _ c.requires.cards.each c.ranges.byte.fits (grind arith))

pub returns-then-is_of_bridge-clause-cards : goal.returns-then-is_of_bridge-clause-cards
returns-then-is_of_bridge-clause-cards c = λ setup bytes are.
    let other = c.is_of_bridge.ensures.bridge c.if-is_of_bridge.true in
    cards_stay (of_registers setup) bytes _ are (reg_after c.args.reg c.args.k) c.args.byte c.requires.cards.each
    c.ranges.byte.fits (grind arith)

place : (reg : Reg) (k off : ℕ) → reg.fun ≡ 0 → off ≡ reg.off + k → card_register reg.dev off ≡ reg_after reg k
place reg k off fun is = rw is (in_function_0 (reg_after reg k) reg.dev refl fun)

pub returns-in-Some-clause-stands : goal.returns-in-Some-clause-stands
returns-in-Some-clause-stands c = λ setup bytes stands.
    let card = c.is_of_bridge.ensures.card c.if-is_of_bridge.false in
    stored_apart setup bytes (map_bytes c.args.self.now) stands c.args.byte _ _ (nameless_apart _ _ c.requires.beside)
    (rw (← place c.args.reg c.args.k c.in-Some.off card.1 (omega (arith, c.in-Some.ensures)))
    (c.write_card.ensures.decoded setup bytes stands.cards))

pub returns-in-Some-clause-cards : goal.returns-in-Some-clause-cards
returns-in-Some-clause-cards c = λ setup bytes are.
    let card = c.is_of_bridge.ensures.card c.if-is_of_bridge.false in
    rw (← place c.args.reg c.args.k c.in-Some.off card.1 (omega (arith, c.in-Some.ensures)))
    (c.write_card.ensures.written setup bytes are)

pub returns-in-None-clause-stands : goal.returns-in-None-clause-stands
returns-in-None-clause-stands c = λ setup bytes stands.
    stored_apart _ _ _ stands _ _ _ (nameless_apart _ _ c.requires.beside)
    (cards_stay (of_decoded setup) _ _ stands.cards _ _ c.requires.cards.each c.ranges.byte.fits
    (inr (inr (omega (arith, c.in-None.ensures)))))

pub returns-in-None-clause-cards : goal.returns-in-None-clause-cards
returns-in-None-clause-cards c = λ setup bytes are.
    cards_stay (of_registers setup) bytes _ are (reg_after c.args.reg c.args.k) c.args.byte c.requires.cards.each
    c.ranges.byte.fits (inr (inr (omega (arith, c.in-None.ensures))))
