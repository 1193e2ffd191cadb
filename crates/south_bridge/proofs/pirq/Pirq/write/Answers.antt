use Rattle.std.proofs.Common.{rules, ◌≡◌, slice_set}
use Rattle.device_spec.specs.Routing.{routes_after_write}
use Rattle.south_bridge.proofs.RegisterLemmas.{stored_byte}
use Rattle.south_bridge.proofs.pirq.Pirq.write.Goals as goal

pub returns-in-Some-clause-stored : goal.returns-in-Some-clause-stored
returns-in-Some-clause-stored c =
    let after : slice_set c.self.inside.bytes c.in-Some.pin c.merged.result
    ≡ routes_after_write c.args.self.now c.args.offset c.args.byte = search rules in
    λ setup bytes are.
    rw after (stored_byte setup bytes c.args.self.now c.args.offset c.args.byte c.ranges.byte.fits are)
