-- The windows so far are written.
use Rattle.std.proofs.Common.{◌≡◌, ◌++◌, take, flat_map}
use Rattle.map_builder.specs.State.{window_bytes}
use Rattle.map_builder.proofs.state.push_each.Given as goal

abbrev pub invariant-loop-window : goal.invariant-loop-window
invariant-loop-window l = l.into.items ≡ l.fn.into.items ++ flat_map window_bytes (take l.window-index l.windows)
