-- What the search is for is among the levels that are left.
use Rattle.std.proofs.Common.{◌≡◌, drop}
use Rattle.device_spec.specs.Pic.{request, priority_order}
use Rattle.device_spec.proofs.Priorities.{scan}
use Rattle.pic_pair.proofs.chip.Pic.first_selectable.Given as goal

abbrev pub invariant-loop-place : goal.invariant-loop-place
invariant-loop-place l = request l.self ≡ scan l.self (drop l.place (priority_order l.self.lowest))
