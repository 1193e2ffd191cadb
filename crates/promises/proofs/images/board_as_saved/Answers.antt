use Rattle.promises.proofs.Saved.{loaded_as_saved, at_history}
use Rattle.promises.proofs.images.board_as_saved.Goals as goal

pub returns : goal.returns
returns c = record {
  saved = λ history legal same.
      loaded_as_saved c.args.image.setup history c.load.result c.load.ensures.setup
      (at_history c.args.image.setup c.args.image.steps history c.load.result c.load.ensures.saved legal same);
}
