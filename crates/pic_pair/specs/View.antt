-- What the values of this crate stand for.
use Rattle.std.specs.Prelude.{Bool, List, [], ◌∷◌, ◌++◌, if◌then◌else◌}
use Rattle.device_spec.specs.Pic.{Word, Icw2, Icw3, Icw4}
use Rattle.device_spec.specs.Pair.{Answer}
use Rattle.pic_pair.specs.declared.chip.Awaited.{Awaited}
use Rattle.pic_pair.specs.declared.chip.Awaited.TheVariants.{Nothing, Vector, Cascade, Mode}
use Rattle.pic_pair.specs.declared.pair.Ack.{Ack}

-- the mode word, where it is to come
abbrev pub mode_words : Bool → List Word
mode_words mode = if mode then Icw4 ∷ [] else []

-- the word for a slave, which does not come where the chip is single
abbrev pub cascade_words : Bool → List Word
cascade_words single = if single then [] else Icw3 ∷ []

-- the words that are awaited
abbrev pub awaited_words : Awaited → List Word
awaited_words Nothing = []
awaited_words (Vector single mode) = Icw2 ∷ (cascade_words single ++ mode_words mode)
awaited_words (Cascade mode) = Icw3 ∷ mode_words mode
awaited_words Mode = Icw4 ∷ []

-- the answer to an acknowledge
abbrev pub answer_shown : Ack → Answer
answer_shown ack = record { vector = ack.vector; chip = ack.chip; is_spurious = ack.spurious }
