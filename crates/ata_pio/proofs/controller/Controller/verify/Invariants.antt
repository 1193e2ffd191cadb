use Rattle.std.proofs.Common.{◌≡◌}
use Rattle.device_spec.specs.Ata.Commands.{verified}
use Rattle.device_spec.specs.Ata.Address.{left_of}
use Rattle.ata_pio.specs.View.{medium_of, registers_of, drive_of}
use Rattle.ata_pio.proofs.controller.Controller.verify.Given as goal

-- what is still to be verified gives what the whole does
abbrev pub invariant-loop-sector : goal.invariant-loop-sector
invariant-loop-sector l =
    verified (medium_of l.sectors) (left_of (registers_of l.self.task)) (drive_of l.self)
    ≡ verified (medium_of l.sectors) (left_of (registers_of l.fn.self.task)) (drive_of l.fn.self)

abbrev pub decreases-loop-sector : goal.decreases-loop-sector
decreases-loop-sector l = left_of (registers_of l.self.task)
