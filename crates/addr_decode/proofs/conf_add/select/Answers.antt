use Rattle.std.specs.Int.RustNames.{bit_and}
use Rattle.std.proofs.Common.{arith}
use Rattle.std.proofs.lemmas.Grind.{common_steps}
use Rattle.addr_decode.proofs.AddressLemmas.{kept_address-low_bits, within_space}
use Rattle.addr_decode.proofs.conf_add.select.Goals as goal

pub overflow_add-result : goal.overflow_add-result
overflow_add-result c =
    let aligned = kept_address-low_bits c.args.address c.requires.kept in grind (arith, common_steps)

pub returns-clause-within : goal.returns-clause-within
returns-clause-within c = λ width aligned.
    within_space c.args.address c.args.port (bit_and c.args.address 255) (bit_and c.args.port 3) width
    (kept_address-low_bits c.args.address c.requires.kept) (grind (arith, common_steps)) (grind (arith, common_steps))
    aligned
