use Rattle.std.proofs.Common.{ℕ, List, All, sym, ap, subst}
use Rattle.run_order.specs.declared.entry.RunEntry.{RunEntry}
use Rattle.run_order.specs.Over.{IsPlacedBelow}
use Rattle.run_order.specs.Room.{Order}
use Rattle.run_order.proofs.Histories.{all_turned}
use Rattle.run_order.proofs.order.RunOrder.entries.Goals as goal

pub returns-clause-within : goal.returns-clause-within
returns-clause-within c =
    let within = all_turned (IsPlacedBelow c.self.inside.bus) c.self.inside.entries.items c.self.invariant.within in
    let items = sym c.deref.ensures.value in
    let bus = ap (λ (o : Order). o.bus) c.self.view_is in
    λ k d less. (subst (λ (z : ℕ × List RunEntry). All (IsPlacedBelow z.0) z.1) (λ t. (bus t, items t)) within) k d less
