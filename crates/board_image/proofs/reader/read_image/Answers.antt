use Rattle.std.proofs.Common.{arith}
use Rattle.board_image.proofs.ImageFormats.{image_taken}
use Rattle.board_image.proofs.reader.read_image.Goals as goal

pub returns-in-Ok-clause-image : goal.returns-in-Ok-clause-image
returns-in-Ok-clause-image c =
    image_taken c.args.bytes.now c.image.new.fields c.in-Ok.image (λ k. omega (arith, c.type_inv.bytes k))
    (rw c.of-fields.ensures.all at c.in-Ok.ensures.filled)
