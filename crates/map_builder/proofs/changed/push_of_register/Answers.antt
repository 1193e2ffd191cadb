use Rattle.std.proofs.Common.{sym, ◌∙◌, ◌++◌, ap, List}
use Rattle.pci_bars.specs.Cards.{CardBytes}
use Rattle.map_builder.specs.declared.range.Changed.{Changed}
use Rattle.map_builder.specs.Held.{device_held}
use Rattle.map_builder.proofs.WindowLemmas.{device_is}
use Rattle.map_builder.proofs.changed.push_of_register.Goals as goal

pub returns-in-Card-clause-windows : goal.returns-in-Card-clause-windows
returns-in-Card-clause-windows c =
    let number = rw c.in-Card.is at c.requires.number in
    rw c.in-Card.is
    (λ setup bytes stands.
    c.push_of_device.ensures.windows
    ∙ ap (λ (more : List Changed). c.args.windows.now.items ++ more)
    (ap (λ (cards : List CardBytes). device_held c.in-Card.dev c.in-Card.register cards) c.deref.ensures.0
    ∙ sym (device_is setup bytes c.args.regs.now.cards.items c.in-Card.dev c.in-Card.register number.1
    c.requires.cards.each stands.cards)))
