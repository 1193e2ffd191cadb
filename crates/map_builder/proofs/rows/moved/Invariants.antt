use Rattle.std.proofs.Common.{ℕ, ◌≡◌, ◌*◌, ◌<◌, true, IfSome}
use Rattle.board_spec.specs.Ranges.{boundary_unit}
use Rattle.map_builder.specs.Changed.{IsOutside}
use Rattle.map_builder.specs.Rows.{is_below, IsHidden, IsInRows, StaysOrHidden}
use Rattle.map_builder.proofs.rows.moved.Given as goal

abbrev pub invariant-loop-row : goal.invariant-loop-row
invariant-loop-row l = record {
  within : IfSome l.moved IsInRows;
  top : (addr : ℕ) → IfSome l.moved (IsOutside addr) → is_below l.new addr 7 ≡ is_below l.old addr 7;
  each : (addr : ℕ) → IfSome l.moved (IsOutside addr) → is_below l.old addr 7 ≡ true → (row : ℕ) → row < l.row →
      StaysOrHidden l.old l.new addr row;
  hidden : (addr : ℕ) → addr < l.hidden * boundary_unit → IsHidden l.old l.new addr l.row;
}
