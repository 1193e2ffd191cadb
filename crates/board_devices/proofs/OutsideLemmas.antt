-- What a monitor asks of the devices, and what it writes to them.
use Rattle.std.proofs.Common.{arith, ◌≡◌, false, refl, ◌↔◌, is_some}
use Rattle.board_prelude.proofs.{nat_tests, PortAccess, Spurious, interrupt, Pair, answer_of}
use Rattle.board_prelude.proofs.{after_write as clock_after_write, who_answered}
use Rattle.board_base.specs.declared.target.Dev.TheVariants.{Clock}
use Rattle.board_devices.specs.Devices.{DevicesValue}
use Rattle.board_devices.specs.Steps.{after_write, devices_accessed}

-- ---- INT, and the spurious answer of the master

pub spurious_is : (pair : Pair) → (is_some (interrupt pair.master) ≡ false)
    ↔ (who_answered (answer_of pair) ≡ Spurious 0)
unfolding answer_of
spurious_is pair = grind (arith, nat_tests)

-- ---- a write to the clock

pub clock_written : (access : PortAccess) (devices : DevicesValue) →
    after_write Clock access devices
    ≡ record devices { clock = clock_after_write devices.clock access.port access.value }
unfolding after_write devices_accessed
clock_written access devices = refl
