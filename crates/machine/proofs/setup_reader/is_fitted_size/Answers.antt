use Rattle.board_prelude.proofs.{ne_eqb}
use Rattle.board_image.proofs.ImageFormats.{length_same}
use Rattle.machine.proofs.setup_reader.is_fitted_size.Goals as goal

pub returns : goal.returns
returns c = record {
  size = rw (ne_eqb c.args.size 0 c.if-size-eq0.false) (length_same _ _ c.is_disk_size.ensures.size);
}
