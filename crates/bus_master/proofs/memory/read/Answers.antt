use Rattle.std.proofs.Common.{refl, sym, ◌∙◌}
use Rattle.bus_master.proofs.HeldTargets.{cards_fitted, held_at}
use Rattle.bus_master.proofs.memory.read.Goals as goal

pub target_in-target-requires-clause-cards : goal.target_in-target-requires-clause-cards
target_in-target-requires-clause-cards c = (cards_fitted c.requires.reached.of).each

pub read_from-requires-clause-held : goal.read_from-requires-clause-held
read_from-requires-clause-held c =
    let reached = c.requires.reached in
    held_at reached _ c.requires.aligned _ (c.target_in-target.ensures.target reached.setup reached.of.registers.cards.0
    (sym reached.of.rom ∙ sym c.deref.ensures.value))

pub returns : goal.returns
returns c = record {
  value = λ setup bytes of reached.
      c.read_from.ensures.value setup of.rom
      ∙ rw (
        c.target_in-target.ensures.target setup of.registers.cards.0
            (sym of.rom ∙ sym c.deref.ensures.value),
        reached,
      ) refl;
}
