use Rattle.std.proofs.Common.{take, All}
use Rattle.board_spec.specs.OrderLaws.{in_file_order}
use Rattle.script_spec.specs.Phases.{lists_of}
use Rattle.log_check.specs.Phases.{IsTyped}
use Rattle.log_check.proofs.range.phases_fit.Given as goal

abbrev pub invariant-loop-phase : goal.invariant-loop-phase
invariant-loop-phase l = All IsTyped (in_file_order (lists_of (take l.phase-index l.phases)))
