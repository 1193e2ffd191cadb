use Rattle.std.proofs.Common.{◌≡◌, ◌++◌}
use Rattle.board_prelude.proofs.{string_bytes, hex_number}
use Rattle.logs.specs.Adds.{KeepsFront}
use Rattle.logs.proofs.hex.push_hex.Given as goal

-- what is written and what is still to come
abbrev pub invariant-loop-left : goal.invariant-loop-left
invariant-loop-left l = record {
  joined : string_bytes l.text ++ hex_number l.left l.value ≡ string_bytes l.fn.text ++ hex_number l.bytes l.value;
  kept : KeepsFront l.fn.text l.text;
}

abbrev pub decreases-loop-left : goal.decreases-loop-left
decreases-loop-left l = l.left
