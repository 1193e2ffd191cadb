use Rattle.std.proofs.Common.{◌≡◌, length}
use Rattle.board_commands.specs.Output.{Sent}
use Rattle.board_commands.specs.Puts.{AllTook}
use Rattle.command_files.specs.Calls.{OfCalls}
use Rattle.board_commands.proofs.output.put_piece.Given as goal

abbrev pub invariant-loop-rest : goal.invariant-loop-rest
invariant-loop-rest g l = record {
  sent : Sent (g.K.Sink.taken l.fn.out) (g.K.Sink.taken l.out) l.piece l.rest;
  quiet : g.K.Sink.faults l.out ≡ g.K.Sink.faults l.fn.out;
  puts : OfCalls (g.K.Sink.puts l.fn.out) (g.K.Sink.puts l.out) AllTook;
}

abbrev pub decreases-loop-rest : goal.decreases-loop-rest
decreases-loop-rest g l = length l.rest
