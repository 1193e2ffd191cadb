use Rattle.std.proofs.Common.{◌≡◌, ◌+◌, ◌-◌, ◌<◌, vec_len}
use Rattle.board_outside.specs.Outside.{OfFile}
use Rattle.command_files.specs.Files.{IsFront}
use Rattle.command_files.specs.Calls.{OfCalls}
use Rattle.command_files.proofs.CallLemmas.{ReadTo}
use Rattle.command_files.proofs.files.read_file.Given as goal

abbrev pub invariant-loop-shelf : goal.invariant-loop-shelf
invariant-loop-shelf g l = record {
  front : OfFile (g.S.Shelf.files l.fn.shelf) l.name (IsFront l.bytes.items);
  room : 0 < vec_len l.piece;
  no_fault : g.S.Shelf.faults l.shelf ≡ g.S.Shelf.faults l.fn.shelf;
  same : g.S.Shelf.files l.shelf ≡ g.S.Shelf.files l.fn.shelf;
  fetches : OfCalls (g.S.Shelf.fetches l.fn.shelf) (g.S.Shelf.fetches l.shelf)
      (ReadTo l.name l.limit (vec_len l.bytes));
}

abbrev pub decreases-loop-shelf : goal.decreases-loop-shelf
decreases-loop-shelf g l = l.limit + 1 - vec_len l.bytes
