-- The pair after many pulses of the timer, in two steps at most.
use Rattle.std.specs.Prelude.{ℕ, ◌&&◌, Bool, true, false, List, slice_set, if◌then◌else◌}
use Rattle.device_spec.specs.Pair.{Pair, pair_after_lines}

-- the pair whose lines take these levels, with line 0 at a level of its own
abbrev pub lines_at : List Bool → ℕ → Bool → Pair → Pair
lines_at levels elcr level pair = pair_after_lines pair (slice_set levels 0 level) elcr

-- Where OUT 0 rose and stands at 1, line 0 is given at 0 and then at 1; otherwise as it stands.
abbrev pub pair_after_run : List Bool → ℕ → (rose out : Bool) → Pair → Pair
pair_after_run levels elcr rose out pair =
    if rose && out then lines_at levels elcr true (lines_at levels elcr false pair) else lines_at levels elcr out pair
