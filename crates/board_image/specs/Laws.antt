-- What the bytes of images and their fields say of one another.
use Rattle.std.specs.Prelude.{ℕ, ◌≡◌, ◌++◌, ◌⊎◌, List}
use Rattle.board_prelude.specs.{Entry, Statement, Setup, IsLegal, IsReplayOf, statements_of}
use Rattle.board_image.specs.ImageBytes.{image_bytes, IsImage}
use Rattle.byte_fields.specs.Fields.{AreBytes}
use Rattle.board_image.specs.ImageFields.{IsBadAt}

-- one value has one spelling, and one spelling is of one value
abbrev pub OneSpelling : Type 0
OneSpelling =
    (setup other : Setup) (steps others : List Statement) → IsImage setup steps → IsImage other others →
    image_bytes setup steps ≡ image_bytes other others → (setup ≡ other) × (steps ≡ others)

-- bytes are an image
pub record IsImageOf (bytes : List ℕ) : Type 0 where
  pub setup : Setup
  pub steps : List Statement
  pub image : IsImage setup steps
  pub spelled : bytes ≡ image_bytes setup steps

-- bytes are an image, or they are bad at one place, and not both
pub record ImageOrBad : Type 0 where
  pub either : (bytes : List ℕ) → AreBytes bytes → IsImageOf bytes ⊎ ((at : ℕ) × IsBadAt bytes at)
  pub not_both : (bytes : List ℕ) (at : ℕ) → IsImageOf bytes → IsBadAt bytes at → ⊥
  pub one_place : (bytes : List ℕ) (at other : ℕ) → IsBadAt bytes at → IsBadAt bytes other → at ≡ other

-- a board that was saved, loaded and gone on with: its history is that of all statements, one after the other
abbrev pub GoesOnAsSaved : Type 0
GoesOnAsSaved =
    (setup : Setup) (saved loaded more : List Entry) → IsLegal setup saved →
    IsReplayOf setup (statements_of saved) loaded → IsLegal setup (more ++ loaded) →
    (loaded ≡ saved) × IsReplayOf setup (statements_of saved ++ statements_of more) (more ++ loaded)
