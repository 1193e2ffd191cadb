-- The words of two devices differ.
use Rattle.std.proofs.Common.{refl}
use Rattle.std.proofs.lemmas.Bool.{false≢true}
use Rattle.board_spec.specs.Text.{WordsApart}
use Rattle.board_base.specs.declared.target.Dev.TheVariants.{Vector, Spurious}

pub words_apart : WordsApart
words_apart (Vector chip) is = absurd (false≢true is)
words_apart (Spurious chip) is = absurd (false≢true is)
words_apart _ is = refl
