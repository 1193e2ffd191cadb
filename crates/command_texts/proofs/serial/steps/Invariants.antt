-- The statements so far are done.
use Rattle.std.proofs.Common.{take}
use Rattle.command_texts.specs.SerialSteps.{WentOn}
use Rattle.command_texts.proofs.serial.steps.Given as goal

abbrev pub invariant-loop-statement : goal.invariant-loop-statement
invariant-loop-statement l =
    WentOn (record { serial = l.fn.serial; input = l.fn.input; sent = l.fn.sent.items })
    (take l.statement-index l.statements)
    (record { serial = l.serial; input = l.left; sent = l.sent.items })
