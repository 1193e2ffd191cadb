use Rattle.std.proofs.Common.{ℕ, ◌∙◌, ap, Option, is_some}
use Rattle.addr_decode.proofs.PortLemmas.{card_exists}
use Rattle.addr_decode.proofs.found.card_function.Goals as goal

pub returns-in-Some-clause-exists : goal.returns-in-Some-clause-exists
returns-in-Some-clause-exists c = λ setup same.
    ap (λ (place : Option ℕ). is_some place) c.in-Some.ensures.index
    ∙ card_exists setup c.args.cards.now c.args.reg.dev c.requires.dev same

pub returns-in-None-clause-exists : goal.returns-in-None-clause-exists
returns-in-None-clause-exists c = λ setup same.
    ap (λ (place : Option ℕ). is_some place) c.in-None.ensures.index
    ∙ card_exists setup c.args.cards.now c.args.reg.dev c.requires.dev same
