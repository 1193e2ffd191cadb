-- So many whole pages first, and then what is left.
use Rattle.std.proofs.Common.{◌*◌, arith, refl}
use Rattle.board_prelude.proofs.{nat_tests}
use Rattle.byte_fields.specs.Pages.{memory_page}
use Rattle.machine.proofs.FittedFormat.{in_parts}
use Rattle.machine.proofs.memory_reader.memory.Goals as goal

pub returns : goal.returns
returns c =
    let parted = in_parts c.min-first.result c.args.size (c.min-first.result * memory_page) c.args.fields.now refl
    (grind (arith, nat_tests)) in
    record { filled = rw (parted) c.parts.ensures.filled }
