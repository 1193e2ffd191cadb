-- The lines at power-on.
use Rattle.std.proofs.Common.{arith}
use Rattle.device_spec.specs.Routing.{is_line_driven}
use Rattle.device_spec.specs.Pit.{reset as timer_at_reset, out_of, programmed}
use Rattle.board_spec.specs.RegisterTable.{isa_bridge, reset_byte}
use Rattle.board_spec.specs.Registers.{byte_of}
use Rattle.board_spec.specs.Devices.{wire_of, irq_of, timer_of, clock_of, disk_with}
use Rattle.board_spec.specs.Interrupts.{levels_with}
use Rattle.board_spec.specs.DeviceLaws.{FirstLevels}
use Rattle.device_spec.specs.Clock.{power_on as clock_at_power_on}
use Rattle.std.proofs.lemmas.Bool.Decides.{nat_tests}

pub first_levels : FirstLevels
unfolding levels_with timer_of clock_of wire_of irq_of byte_of reset_byte isa_bridge timer_at_reset out_of
    clock_at_power_on is_line_driven programmed disk_with
first_levels setup = grind (arith, nat_tests)
