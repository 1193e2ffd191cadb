use Rattle.std.proofs.Common.{◌%◌, ◌*◌, arith, refl, length-take}
use Rattle.machine.proofs.Pages.{kept_page}
use Rattle.byte_fields.specs.Pages.{memory_page}
use Rattle.machine.proofs.dram.kept_of.Goals as goal

pub returns-in-Some-clause-within : goal.returns-in-Some-clause-within
returns-in-Some-clause-within c = rw c.part_of.ensures.part (simp length-take (omega arith))

pub returns-in-Some-clause-bytes : goal.returns-in-Some-clause-bytes
returns-in-Some-clause-bytes c =
    kept_page c.args.dram.now c.in-Some.kept.now c.part_of.result.now c.args.page (c.args.page % 256 * memory_page) refl
    c.part_of.ensures.part c.in-Some.ensures.some c.in-Some.ensures.bytes
