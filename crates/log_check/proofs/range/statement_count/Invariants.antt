use Rattle.std.proofs.Common.{◌≡◌, take, length}
use Rattle.board_spec.specs.OrderLaws.{in_file_order}
use Rattle.script_spec.specs.Phases.{lists_of}
use Rattle.log_check.proofs.range.statement_count.Given as goal

abbrev pub invariant-loop-phase : goal.invariant-loop-phase
invariant-loop-phase l = l.count ≡ length (in_file_order (lists_of (take l.phase-index l.phases)))
