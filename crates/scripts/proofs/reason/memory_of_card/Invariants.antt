use Rattle.std.proofs.Common.{◌≡◌, take, sum_by}
use Rattle.board_spec.specs.Setup.{memory_size}
use Rattle.scripts.proofs.reason.memory_of_card.Given as goal

abbrev pub invariant-loop-base : goal.invariant-loop-base
invariant-loop-base l = l.memory ≡ sum_by memory_size (take l.base-index l.card.bases)
