use Rattle.std.proofs.Common.{◌<◌, ℕ, get_or}
use Rattle.map_builder.specs.declared.range.Changed.{Changed}
use Rattle.map_builder.specs.State.{IsWindow}
use Rattle.map_builder.proofs.state.are_wide.Given as goal

abbrev pub invariant-loop-window : goal.invariant-loop-window
invariant-loop-window l = (k : ℕ) (d : Changed) → k < l.window-index → IsWindow (get_or l.windows k d)
