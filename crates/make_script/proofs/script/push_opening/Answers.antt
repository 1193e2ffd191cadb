use Rattle.std.proofs.Common.{refl}
use Rattle.logs.proofs.Joined.{appended_twice}
use Rattle.make_script.specs.MakeText.{setup_lines, opening_lines}
use Rattle.make_script.proofs.script.push_opening.Goals as goal

pub returns-clause-appended : goal.returns-clause-appended
unfolding setup_lines opening_lines
returns-clause-appended c =
    appended_twice c.push_words-2.result _ _ _ _ _ _ c.in_ok-push_words.ensures.appended
    c.push_words-2.ensures.appended refl
