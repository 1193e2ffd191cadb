use Rattle.std.proofs.Common.{◌≡◌, ◌++◌, ◌+◌, ◌*◌, ◌≤◌, length}
use Rattle.board_prelude.proofs.{hex_number}
use Rattle.logs.proofs.hex.put_each_byte.Given as goal

-- the lowest bytes so far
abbrev pub invariant-loop-index : goal.invariant-loop-index
invariant-loop-index l = record {
  words : l.line ≡ hex_number l.index l.value ++ l.fn.line;
  length : length l.line ≤ length l.fn.line + 2 * l.index;
}
