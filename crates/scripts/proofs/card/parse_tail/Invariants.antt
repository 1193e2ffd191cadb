use Rattle.std.proofs.Common.{◌≡◌, length}
use Rattle.script_spec.specs.Cards.{with_fields, no_tail}
use Rattle.scripts.specs.Items.{tail_said}
use Rattle.scripts.proofs.card.parse_tail.Given as goal

-- the fields that are left make the whole
abbrev pub invariant-loop-field : goal.invariant-loop-field
invariant-loop-field l = with_fields l.version (tail_said l.tail) l.rest ≡ with_fields l.version no_tail l.fn.fields

abbrev pub decreases-loop-field : goal.decreases-loop-field
decreases-loop-field l = length l.rest
