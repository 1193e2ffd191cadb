use Rattle.std.proofs.Common.{append-nil, refl}
use Rattle.make_script.specs.MakeText.{lines_of_rounds}
use Rattle.make_script.proofs.MadeLemmas.{text-more}
use Rattle.make_script.proofs.script.make_text.Goals as goal

pub loop-round-init : goal.loop-round-init
unfolding lines_of_rounds
loop-round-init c = rw (append-nil, c.in_ok-push_opening.ensures.appended, c.new-text.ensures.bytes) refl

pub loop-round-preserved : goal.loop-round-preserved
loop-round-preserved c = text-more c.loop-round.round _ _ c.loop-round.invariant c.in_ok-push_round.ensures.appended
