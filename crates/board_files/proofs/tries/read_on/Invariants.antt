-- What the file has left is as before.
use Rattle.std.specs.Io.KnownBytes.{Keeps}
use Rattle.board_files.proofs.tries.read_on.Given as goal

abbrev pub invariant-loop : goal.invariant-loop
invariant-loop g l = Keeps (g.R.Read.remaining l.fn.file) (g.R.Read.remaining l.file)
