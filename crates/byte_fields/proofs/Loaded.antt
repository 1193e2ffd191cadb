-- What a format says of a call that reads by it.
use Rattle.std.proofs.Common.{◌≡◌, ℕ, List, [], ◌++◌, Result, Ok, sym, ap, arith, ◌∙◌}
use Rattle.byte_fields.specs.declared.fault.Bad.{Bad}
use Rattle.byte_fields.specs.declared.fault.Fault.{Fault}
use Rattle.byte_fields.specs.declared.fault.Fault.TheVariants as faults
use Rattle.byte_fields.specs.Fields.{AreBytes, Reading, Took, Filled}
use Rattle.byte_fields.specs.Loads.{Loads, LoadsWith, OneSpelling}
use Rattle.byte_fields.proofs.Formats.{IsFormat, ok_is}
use Rattle.std.proofs.lemmas.Bool.Decides.{nat_tests}

module _ {A : Type 0} {n : ℕ} {reads : Reading A} {spelled : A → List ℕ} {IsSound : A → Type 0}
    (is : IsFormat n reads spelled IsSound) where
  module _ (before : List ℕ) where
    -- what is read is what was spelled
    again : (value : A) (rest : List ℕ) → IsSound value → before ≡ spelled value ++ rest →
        reads before ≡ Ok (value, rest)
    again value rest sound begins = rw begins (is.back value rest sound)

    pub loads : (after : List ℕ) (result : Result A Bad) → AreBytes before →
        Took (λ value. value) result after (reads before) → Loads reads spelled IsSound before after result
    loads after result bytes took = grind (arith, nat_tests, again)

    pub loads_with : (after : List ℕ) (result : Result A Fault) → AreBytes before →
        Filled (λ value. value) result after (reads before) → LoadsWith reads spelled IsSound before after result
    loads_with after result bytes filled = grind (arith, nat_tests, again)

  pub one_spelling : OneSpelling spelled IsSound
  one_spelling left right of_left of_right same =
      ap (λ (pair : A × List ℕ). pair.0)
      (ok_is (left, []) (right, []) (sym (is.back left [] of_left) ∙ rw same (is.back right [] of_right)))
