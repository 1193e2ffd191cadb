use Rattle.std.proofs.Common.{ℕ, ◌≡◌, ◌≤◌, ◌+◌, ◌++◌, List, [], length, take}
use Rattle.board_prelude.proofs.{IsCompleteFor, in_file_order, log_text}
use Rattle.script_spec.specs.Phases.{lists_of}
use Rattle.log_check.specs.Counted.{AreNumbersOf}
use Rattle.log_check.proofs.check.check_phases.Given as goal

abbrev pub invariant-loop-phase : goal.invariant-loop-phase
invariant-loop-phase g l = record {
  setup : (g.B.Steps.standing l.board).setup ≡ (g.B.Steps.standing l.fn.board).setup;
  spare :
      length (in_file_order (lists_of l.phases))
      ≤ (g.B.Steps.standing l.board).spare + length (in_file_order (lists_of (take l.phase-index l.phases)));
  count :
      length (g.B.Steps.standing l.board).entries
      ≡ length (in_file_order (lists_of (take l.phase-index l.phases)));
  numbers : AreNumbersOf l.numbers (g.B.Steps.standing l.board).entries;
  complete : IsCompleteFor (lists_of (take l.phase-index l.phases)) (g.B.Steps.standing l.board).entries;
  past : (version : ℕ) (bytes : List ℕ) → bytes ≡ log_text version [] ++ l.rest →
      bytes ≡ log_text version (g.B.Steps.standing l.board).entries ++ l.left;
}
