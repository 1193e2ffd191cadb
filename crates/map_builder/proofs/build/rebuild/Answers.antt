use Rattle.std.proofs.Common.{arith, map}
use Rattle.std.proofs.lemmas.Bool.Decides.{nat_tests}
use Rattle.std.proofs.lemmas.List.{nil_from_length}
use Rattle.addr_decode.specs.MapRegs.{map_bytes}
use Rattle.map_builder.specs.Ranges.{range_of}
use Rattle.map_builder.proofs.RebuildLemmas.{all_right}
use Rattle.map_builder.proofs.build.rebuild.Goals as goal

pub returns-then-is_empty-clause-map : goal.returns-then-is_empty-clause-map
returns-then-is_empty-clause-map g c =
    let none = nil_from_length c.args.windows.now (grind (arith, nat_tests)) in
    all_right (map_bytes c.args.regs.now) (map range_of c.args.ranges.now.items) (rw none at c.requires.beside)

pub returns : goal.returns
returns g c = assumption (c.sweep.ensures.whole, c.sweep.ensures)
