-- What is left of the bases decides for all of them.
use Rattle.std.proofs.Common.{drop, map, ◌↔◌, All}
use Rattle.board_spec.specs.Setup.{IsBase}
use Rattle.pci_bars.specs.Bases.{base_of}
use Rattle.board_chipset.proofs.card_check.are_bases.Given as goal

abbrev pub invariant-loop-base : goal.invariant-loop-base
invariant-loop-base l = All IsBase (map base_of l.bases) ↔ All IsBase (map base_of (drop l.base-index l.bases))
