use Rattle.std.proofs.Common.{arith, rules}
use Rattle.pci_bars.proofs.CardLemmas.{are_written, command_stored, line_stored, none_stored}
use Rattle.pci_bars.proofs.regs.CardRegs.write.Goals as goal

pub returns-in-4 : goal.returns-in-4
returns-in-4 c =
    let fit = rw (← c.self.view_is) at c.requires.card in
    let both = are_written _ _ _ _ fit c.ranges.byte.fits (command_stored _ c.args.byte) in
    rw (← c.self.view_is, c.in-4.is, c.merged-self-inside.ensures.merged)
    (record { written = both.1; decodes = both.0; same_card = search rules })

pub returns-in-60 : goal.returns-in-60
returns-in-60 c =
    let fit = rw (← c.self-in-60.view_is) at c.requires.card in
    let both = are_written _ _ _ _ fit c.ranges.byte.fits (line_stored _ c.args.byte) in
    rw (← c.self-in-60.view_is, c.in-60.is) (record { written = both.1; decodes = both.0; same_card = search rules })

pub returns-then-off-lt16 : goal.returns-then-off-lt16
returns-then-off-lt16 c =
    let store = none_stored c.args.self.now c.args.off c.args.byte (grind arith) (λ e. omega arith) in
    let both = are_written _ _ _ _ c.requires.card c.ranges.byte.fits store in
    record { written = both.1; decodes = both.0; same_card = search rules }

pub returns-else-off-lt52 : goal.returns-else-off-lt52
returns-else-off-lt52 c =
    let store = none_stored c.args.self.now c.args.off c.args.byte (grind arith) (λ e. omega arith) in
    let both = are_written _ _ _ _ c.requires.card c.ranges.byte.fits store in
    record { written = both.1; decodes = both.0; same_card = search rules }

pub returns-then-off-lt48 : goal.returns-then-off-lt48
returns-then-off-lt48 c =
    let store = none_stored c.args.self.now c.args.off c.args.byte (grind arith) (λ e. omega arith) in
    let both = are_written _ _ _ _ c.requires.card c.ranges.byte.fits store in
    record { written = both.1; decodes = both.0; same_card = search rules }
