-- What the bases so far took of the room, and what is left of them takes, is what all take.
use Rattle.std.proofs.Common.{◌≡◌, ◌+◌, drop, map, sum_by}
use Rattle.board_spec.specs.Setup.{memory_size}
use Rattle.pci_bars.specs.Bases.{base_of}
use Rattle.board_chipset.proofs.card_check.room_after.Given as goal

abbrev pub invariant-loop-base : goal.invariant-loop-base
invariant-loop-base l =
    l.left + sum_by memory_size (map base_of l.bases)
    ≡ l.room + sum_by memory_size (map base_of (drop l.base-index l.bases))
