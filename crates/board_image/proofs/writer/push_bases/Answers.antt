use Rattle.std.proofs.Common.{arith, ℕ, ◌<◌, List, length, map, All, slice_index_or}
use Rattle.std.proofs.lemmas.Bool.Decides.{nat_tests}
use Rattle.board_prelude.proofs.{length-map, get_or-map, IsBase}
use Rattle.pci_bars.specs.declared.spec.BaseSpec.{BaseSpec}
use Rattle.pci_bars.specs.Bases.{base_of}
use Rattle.board_image.proofs.writer.push_bases.Goals as goal

fits_at : (bases : List BaseSpec) (k : ℕ) (d : BaseSpec) → k < length bases → All IsBase (map base_of bases) →
    IsBase (base_of (slice_index_or bases k d))
fits_at bases k d below fit =
    rw (← get_or-map base_of bases k d (base_of d) below) (fit k (base_of d) (rw (length-map bases base_of) below))

pub base_byte-requires : goal.base_byte-requires
base_byte-requires c = grind (arith, nat_tests, length-map, get_or-map, fits_at)
