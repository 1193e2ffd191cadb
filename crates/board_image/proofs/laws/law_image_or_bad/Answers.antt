use Rattle.std.proofs.Common.{◌≡◌, ℕ, ◌-◌, ◌⊎◌, inl, inr, List, length, Result, Ok, Err, refl, sym, ◌∙◌, arith}
use Rattle.board_image.specs.ImageBytes.{Saved}
use Rattle.board_image.specs.ImageFields.{image_fields, IsBadAt}
use Rattle.byte_fields.specs.Fields.{AreBytes}
use Rattle.board_image.specs.Laws.{IsImageOf}
use Rattle.byte_fields.proofs.Formats.{err_is}
use Rattle.board_image.proofs.ImageFormats.{image_never, image_taken, image_bad}
use Rattle.board_image.proofs.laws.law_image_or_bad.Goals as goal

either_read : (bytes : List ℕ) (read : Result (Saved × List ℕ) ℕ) → AreBytes bytes → image_fields bytes ≡ read →
    IsImageOf bytes ⊎ ((at : ℕ) × IsBadAt bytes at)
either_read bytes (Ok got) are is =
    let told = image_taken bytes got.1 got.0 are is in
    inl (record { setup = got.0.setup; steps = got.0.steps; image = told.0; spelled = told.1 })
either_read bytes (Err left) are is =
    let within = image_bad bytes left are is in
    inr (length bytes - left, record { left = left; place = omega (arith, within.0); bad = is })

one_place : (bytes : List ℕ) (at other : ℕ) → IsBadAt bytes at → IsBadAt bytes other → at ≡ other
one_place bytes at other one two =
    let same : one.left ≡ two.left = err_is {X = Saved × List ℕ} one.left two.left (sym one.bad ∙ two.bad) in
    omega (arith, same, one.place, two.place)

pub returns : goal.returns
returns c = record {
  one = record {
    either = λ bytes are. either_read bytes (image_fields bytes) are refl;
    not_both = λ bytes at image bad.
        image_never bytes image.setup image.steps image.image image.spelled bad.left bad.bad;
    one_place = one_place;
  };
}
