use Rattle.std.proofs.Common.{◌≡◌, take, reverse}
use Rattle.command_words.specs.Commands.{said_by}
use Rattle.command_files.specs.Calls.{OfCalls}
use Rattle.command_files.proofs.Places.{AreTaken, WholeBefore}
use Rattle.command_files.proofs.walk.read_files.Given as goal

abbrev pub invariant-loop-which : goal.invariant-loop-which
invariant-loop-which g l = record {
  taken : AreTaken (said_by l.command) (g.S.Shelf.files l.fn.shelf) (reverse (take l.which-index l.files)) l.read;
  no_fault : g.S.Shelf.faults l.shelf ≡ g.S.Shelf.faults l.fn.shelf;
  same : g.S.Shelf.files l.shelf ≡ g.S.Shelf.files l.fn.shelf;
  fetches : OfCalls (g.S.Shelf.fetches l.fn.shelf) (g.S.Shelf.fetches l.shelf)
      (WholeBefore (said_by l.command) (g.S.Shelf.files l.fn.shelf) (reverse (take l.which-index l.files)));
}
