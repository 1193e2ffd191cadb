-- The examples are computed from the definitions.
use Rattle.std.proofs.Common.{rules}
use Rattle.board_image.specs.ImageBytes.{card_bytes}
use Rattle.board_image.specs.ImageFields.{bases_fields, card_fields, head_fields}
use Rattle.library_examples.specs.Images.{CardFieldBorders, HeadBorders, OutsideKept, PortsKept}

pub images : PortsKept × OutsideKept × HeadBorders × CardFieldBorders
unfolding card_bytes bases_fields card_fields head_fields
images = search rules
