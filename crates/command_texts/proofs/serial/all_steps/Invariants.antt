-- The phases so far are done.
use Rattle.std.proofs.Common.{take}
use Rattle.board_spec.specs.OrderLaws.{in_file_order}
use Rattle.script_spec.specs.Phases.{lists_of}
use Rattle.command_texts.specs.SerialSteps.{WentOn}
use Rattle.command_texts.proofs.serial.all_steps.Given as goal

abbrev pub invariant-loop-phase : goal.invariant-loop-phase
invariant-loop-phase l =
    WentOn (record { serial = l.fn.serial; input = l.fn.input; sent = l.fn.sent.items })
    (in_file_order (lists_of (take l.phase-index l.phases)))
    (record { serial = l.serial; input = l.left; sent = l.sent.items })
