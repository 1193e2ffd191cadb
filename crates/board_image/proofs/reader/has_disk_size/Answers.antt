use Rattle.board_image.proofs.ImageFormats.{length_same}
use Rattle.board_image.proofs.reader.has_disk_size.Goals as goal

pub returns-then-has_disk : goal.returns-then-has_disk
returns-then-has_disk c = record {
  size = rw c.if-has_disk.true (length_same c.args.size c.is_disk_size.result c.is_disk_size.ensures.size);
}
