use Rattle.std.proofs.Common.{◌≢◌, ℕ, ◌<◌, slice_index_or}
use Rattle.board_live.specs.declared.cpu.Cpu.{Cpu}
use Rattle.board_live.proofs.live.place_of_first.Given as goal

abbrev pub invariant-loop-place : goal.invariant-loop-place
invariant-loop-place g l = (k : ℕ) (d : Cpu _ g.B.Steps) → k < l.place → (slice_index_or l.cpus k d).number ≢ 0
