use Rattle.std.proofs.Common.{◌≡◌}
use Rattle.std.specs.String.{string_bytes}
use Rattle.script_spec.specs.Lines.{text_of_lines}
use Rattle.make_script.specs.MakeText.{make_lines}
use Rattle.make_script.proofs.script.make_text.Given as goal

-- the text of the rounds so far
abbrev pub invariant-loop-round : goal.invariant-loop-round
invariant-loop-round l = string_bytes l.text ≡ text_of_lines (make_lines l.round)
