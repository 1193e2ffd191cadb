use Rattle.std.proofs.Common.{◌≡◌, drop}
use Rattle.logs.specs.Text.{joined}
use Rattle.board_commands.specs.Output.{Sent}
use Rattle.board_commands.specs.Puts.{AllTook}
use Rattle.command_files.specs.Calls.{OfCalls}
use Rattle.board_commands.proofs.output.put_all.Given as goal

-- the pieces so far were sent
abbrev pub invariant-loop-piece : goal.invariant-loop-piece
invariant-loop-piece g l = record {
  sent : Sent (g.K.Sink.taken l.fn.out) (g.K.Sink.taken l.out) l.text (joined (drop l.piece-index l.piece-items));
  quiet : g.K.Sink.faults l.out ≡ g.K.Sink.faults l.fn.out;
  puts : OfCalls (g.K.Sink.puts l.fn.out) (g.K.Sink.puts l.out) AllTook;
}
