-- The text so far was sent.
use Rattle.std.proofs.Common.{◌≡◌, length}
use Rattle.board_commands.specs.Output.{Sent}
use Rattle.board_main.proofs.put.put_text.Given as goal

abbrev pub invariant-loop-rest : goal.invariant-loop-rest
invariant-loop-rest g l = record {
  sent : Sent (g.W.Write.contents l.fn.out.out) (g.W.Write.contents l.out.out) l.text l.rest;
  quiet : l.out.faults ≡ l.fn.out.faults;
}

abbrev pub decreases-loop-rest : goal.decreases-loop-rest
decreases-loop-rest g l = length l.rest
