use Rattle.std.proofs.Common.{◌∙◌, length, sym, arith}
use Rattle.board_chipset.specs.Chipset.{IsLeftBy}
use Rattle.board_chipset.proofs.CardLoadSteps.{IsCopied, card_kept, card_left, fitting, sound_copied}
use Rattle.board_chipset.proofs.chipset.Chipset.write_card.Goals.{After-write_bytes}
use Rattle.board_chipset.proofs.chipset.Chipset.write_card.Goals as goal

pub write_bytes-requires : goal.write_bytes-requires
write_bytes-requires c =
    assumption (fitting c.self.invariant c.args.dev c.args.base c.args.off _
    (sym c.is_empty.ensures ∙ c.if-is_empty.false) (rw (← c.self.view_is) at c.in_ok-test_card.ensures.within))

copied : (c : After-write_bytes) →
    IsCopied c.self.inside.state.stores.contents c.args.dev c.args.base c.args.off c.args.bytes.now
    c.write_bytes.new.self
copied c =
    assumption (fitting c.self.invariant c.args.dev c.args.base c.args.off (length c.args.bytes.now)
    (sym c.is_empty.ensures ∙ c.if-is_empty.false) (rw (← c.self.view_is) at c.in_ok-test_card.ensures.within))

pub invariant_of-self : goal.invariant_of-self
invariant_of-self c =
    let at = (goal.at.invariant_of-self c).After-write_bytes in
    sound_copied (copied at) (λ k. omega (arith, c.type_inv.bytes k)) c.self.invariant

pub returns-clause-left : goal.returns-clause-left
unfolding IsLeftBy
returns-clause-left c =
    let at = (goal.at.returns-clause-left c).After-write_bytes in
    rw (← c.self.view_is) (card_left (copied at) (λ k. omega (arith, c.type_inv.bytes k)))

pub returns-clause-goes_on : goal.returns-clause-goes_on
unfolding IsLeftBy
returns-clause-goes_on c =
    let at = (goal.at.returns-clause-goes_on c).After-write_bytes in
    rw (← c.self.view_is) (card_kept (copied at) (λ k. omega (arith, c.type_inv.bytes k)))
