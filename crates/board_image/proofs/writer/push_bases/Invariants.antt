-- The bases so far are written.
use Rattle.std.proofs.Common.{◌≡◌, ◌++◌, take, map}
use Rattle.pci_bars.specs.Bases.{base_of}
use Rattle.board_image.specs.ImageBytes.{base_byte}
use Rattle.board_image.proofs.writer.push_bases.Given as goal

abbrev pub invariant-loop-base : goal.invariant-loop-base
invariant-loop-base l = l.out.items ≡ l.fn.out.items ++ map base_byte (map base_of (take l.base-index l.bases))
