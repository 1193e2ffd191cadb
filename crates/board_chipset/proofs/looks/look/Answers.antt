use Rattle.std.proofs.Common.{arith, ◌∙◌}
use Rattle.board_prelude.proofs.{nat_tests, byte_of}
use Rattle.board_chipset.proofs.StateSteps.{writes_none, state_stays}
use Rattle.board_chipset.proofs.looks.look.Goals as goal

pub returns-clause-answer : goal.returns-clause-answer
returns-clause-answer c = λ setup history kept. record {
  version = c.version.ensures.version ∙ kept.registers.version;
  span = c.find-span.ensures.span setup (byte_of setup history) kept.registers.kept.map;
}

pub returns-clause-board : goal.returns-clause-board
returns-clause-board c = λ setup history entry kept event.
    state_stays kept (writes_none setup history entry.event (λ port is. cc)) (rw event tt)
    (λ cell. rw event (grind (arith, nat_tests)))
