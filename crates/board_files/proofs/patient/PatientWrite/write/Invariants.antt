-- What the writer took is as before.
use Rattle.std.specs.Io.KnownBytes.{Keeps}
use Rattle.board_files.proofs.patient.PatientWrite.write.Given as goal

abbrev pub invariant-loop : goal.invariant-loop
invariant-loop g l = Keeps (g.W.Write.contents l.fn.self.out) (g.W.Write.contents l.self.out)
