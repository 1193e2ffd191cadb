use Rattle.std.proofs.Common.{sym, ◌∙◌}
use Rattle.bus_master.proofs.HeldTargets.{cards_fitted, held_at}
use Rattle.bus_master.proofs.memory.write.Goals as goal

pub target_in-target-requires-clause-cards : goal.target_in-target-requires-clause-cards
target_in-target-requires-clause-cards c = (cards_fitted c.requires.reached.of).each

pub write_to-requires-clause-held : goal.write_to-requires-clause-held
write_to-requires-clause-held c =
    let reached = c.requires.reached in
    held_at reached _ c.requires.aligned _ (c.target_in-target.ensures.target reached.setup reached.of.registers.cards.0
    (sym reached.of.rom ∙ sym c.deref.ensures.value))
