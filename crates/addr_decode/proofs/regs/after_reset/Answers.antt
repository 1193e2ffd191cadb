use Rattle.std.proofs.Common.{refl}
use Rattle.board_spec.specs.RegisterTable.{host_bridge, reset_byte}
use Rattle.addr_decode.proofs.CardLemmas.{reset_cards}
use Rattle.addr_decode.proofs.StandsLemmas.{stands_at_reset}
use Rattle.addr_decode.proofs.regs.after_reset.Goals as goal

pub returns-clause-stands : goal.returns-clause-stands
unfolding reset_byte host_bridge
returns-clause-stands c = λ setup.
    stands_at_reset setup _
    (record { rows = refl; windows = refl; singles = c.reset_singles.ensures.reset setup })
    c.requires.cards c.requires.reset

pub returns-clause-reset : goal.returns-clause-reset
returns-clause-reset c = λ setup. reset_cards setup _ c.requires.cards c.requires.reset
