-- What the search is for is among the levels that are left.
use Rattle.std.proofs.Common.{◌≡◌, drop}
use Rattle.std.specs.List.{find}
use Rattle.device_spec.specs.Levels.{has}
use Rattle.device_spec.specs.Pic.{priority_order}
use Rattle.pic_pair.proofs.priority.first_of.Given as goal

abbrev pub invariant-loop-place : goal.invariant-loop-place
invariant-loop-place l = find (has l.levels) (priority_order l.lowest)
    ≡ find (has l.levels) (drop l.place (priority_order l.lowest))
