use Rattle.std.proofs.Common.{[], ap}
use Rattle.board_image.specs.ImageBytes.{Saved}
use Rattle.board_image.proofs.ImageFormats.{image_back, image_same}
use Rattle.board_image.proofs.laws.law_one_spelling.Goals as goal

pub returns : goal.returns
returns c = record {
  spelling = λ setup other steps others is is_other same.
      let read = image_same _ other others is_other same _ [] (image_back setup steps is) in
      (ap (λ (saved : Saved). saved.setup) read, ap (λ (saved : Saved). saved.steps) read);
}
