use Rattle.std.proofs.Common.{arith}
use Rattle.board_prelude.proofs.{nat_tests}
use Rattle.addr_decode.proofs.FixedEdgeLemmas.{rows_stay}
use Rattle.addr_decode.proofs.edges.Nearest.is_before_rows.Goals as goal

pub returns-then-self-ge-LARGEST_TOP : goal.returns-then-self-ge-LARGEST_TOP
returns-then-self-ge-LARGEST_TOP c = record {
  rows = λ _. rows_stay _ _ _ c.are_bytes.ensures.bytes (λ boundary small. grind (arith, nat_tests));
}

pub returns-in-Some : goal.returns-in-Some
returns-in-Some c = record {
  rows = λ near. rows_stay _ _ _ c.are_bytes.ensures.bytes (λ boundary small. grind (arith, nat_tests));
}
