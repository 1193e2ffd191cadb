-- The words of stimuli are short, and of ASCII.
use Rattle.board_prelude.proofs.{nat_tests, common_steps, Stimulus, stimulus_form}
use Rattle.std.proofs.Common.{◌≤◌, length, arith}
use Rattle.std.specs.Str.{IsAscii}

pub ascii_word : (one : Stimulus) → IsAscii (stimulus_form one).word
ascii_word one = grind (arith, nat_tests, common_steps)

pub short_word : (one : Stimulus) → length (stimulus_form one).word ≤ 6
short_word one = grind (arith, nat_tests)
