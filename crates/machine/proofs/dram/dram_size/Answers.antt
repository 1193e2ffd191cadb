use Rattle.std.proofs.Common.{◌+◌, ◌*◌, ap, sym, take, length, arith, length-take}
use Rattle.byte_fields.specs.Pages.{memory_page}
use Rattle.machine.proofs.Pages.{memory_few, no_memory, size_on}
use Rattle.machine.proofs.dram.dram_size.Goals as goal

pub loop-kept-init : goal.loop-kept-init
loop-kept-init c = record { size = sym (ap length no_memory); within = omega arith }

pub overflow_add-size : goal.overflow_add-size
overflow_add-size c =
    let next =
    size_on c.args.dram.now c.in-Some.kept.now c.loop-kept.page c.in-Some.ensures.some c.in-Some.ensures.bytes in
    omega (
      arith,
      memory_few (take ((c.loop-kept.page + 1) * memory_page) c.args.dram.now),
      length-take ((c.loop-kept.page + 1) * memory_page) c.args.dram.now,
    )

pub loop-kept-preserved : goal.loop-kept-preserved
loop-kept-preserved c =
    let next =
    size_on c.args.dram.now c.in-Some.kept.now c.loop-kept.page c.in-Some.ensures.some c.in-Some.ensures.bytes in
    record { size = omega arith; within = c.in-Some.ensures.some }

pub returns-clause-most : goal.returns-clause-most
returns-clause-most c =
    omega (
      arith,
      memory_few (take (c.loop-kept.page * memory_page) c.args.dram.now),
      length-take (c.loop-kept.page * memory_page) c.args.dram.now,
    )
