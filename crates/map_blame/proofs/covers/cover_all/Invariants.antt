use Rattle.std.proofs.Common.{◌≡◌, true, Some, if◌then◌else◌}
use Rattle.board_base.specs.declared.target.Reg.{Reg}
use Rattle.map_blame.specs.Covers.{is_placed, number_at}
use Rattle.map_blame.proofs.CoverLemmas.{covers_first}
use Rattle.map_blame.proofs.covers.cover_all.Given as goal

abbrev pub invariant-loop-k : goal.invariant-loop-k
invariant-loop-k l = record {
  so_far : (other : Reg) → is_placed other ≡ true →
      number_at l.last other ≡ (if covers_first l.reg l.k other then Some l.number else number_at l.fn.last other);
}
