use Rattle.std.proofs.Common.{sym, ◌∙◌}
use Rattle.addr_decode.proofs.NameLemmas.{is_name}
use Rattle.addr_decode.proofs.regs.MapRegs.store_after.Goals as goal

pub set-requires-clause-number : goal.set-requires-clause-number
set-requires-clause-number c = (is_name _ _ _ (sym c.requires.name ∙ c.in-Some.is)).number

pub returns-in-Some-clause-stands : goal.returns-in-Some-clause-stands
returns-in-Some-clause-stands c = λ setup bytes stands.
    rw (← (is_name _ _ _ (sym c.requires.name ∙ c.in-Some.is)).place) (c.set.ensures.stands setup bytes stands)

pub returns-in-Some-clause-cards : goal.returns-in-Some-clause-cards
returns-in-Some-clause-cards c = λ setup bytes are.
    rw (← (is_name _ _ _ (sym c.requires.name ∙ c.in-Some.is)).place) (c.set.ensures.cards setup bytes are)
