use Rattle.std.proofs.Common.{◌≡◌, ◌/◌, map}
use Rattle.std.specs.List.{range_with_len}
use Rattle.make_script.proofs.images.make_disk.Given as goal

abbrev pub invariant-loop-offset : goal.invariant-loop-offset
invariant-loop-offset l = l.disk.items ≡ map (λ offset. offset / 512) (range_with_len 0 l.offset)
