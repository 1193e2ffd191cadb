-- Accesses of one bus cycle have a place.
use Rattle.std.proofs.Common.{◌≡◌, None, arith}
use Rattle.board_prelude.proofs.{Bytes, Event, nat_tests}
use Rattle.board_chipset.specs.Chipset.{Running}
use Rattle.board_chipset.specs.Held.{HoldsRegisters, held_place}
use Rattle.machine_records.specs.Places.{IsCycle}

no_place : (chipset : Running) (bytes : Bytes) (asked : Event) → None ≡ held_place chipset bytes asked →
    IsCycle asked → ⊥
no_place chipset bytes asked is cycle = grind (arith, nat_tests)

pub no_cycle_without : (chipset : Running) (asked : Event) → (bytes : Bytes) × HoldsRegisters chipset bytes →
    ((bytes : Bytes) → HoldsRegisters chipset bytes → None ≡ held_place chipset bytes asked) → IsCycle asked → ⊥
no_cycle_without chipset asked some is cycle = no_place chipset some.0 asked (is some.0 some.1) cycle
