-- The bases of a card one after the other, as a loop reads them.
use Rattle.std.proofs.Common.{◌≡◌, ℕ, ◌+◌, ◌<◌, true, List, [], ◌∷◌, ◌++◌, length, map, take, get_or, Some, None, refl}
use Rattle.std.proofs.Common.{ap, ◌∙◌, arith}
use Rattle.board_prelude.proofs.{list_all, and_from, get_or-map, length-map, take_more, map-append}
use Rattle.std.proofs.lemmas.List.Folds.{list_all_at, list_all_more}
use Rattle.pci_bars.specs.declared.spec.BaseSpec.{BaseSpec}
use Rattle.pci_bars.specs.Bases.{base_of}
use Rattle.board_prelude.specs.{is_base_in_range}
use Rattle.scripts.specs.declared.card.BaseField.{BaseField}
use Rattle.scripts.specs.Items.{base_said}
use Rattle.scripts.specs.Valid.{in_case}
use Rattle.scripts.proofs.Reasons.{none_in_case, some_in_case}

module _ (fields : List BaseField) (i : ℕ) (d : BaseField) (inside : i < length fields) where
  place : i < length (map base_said fields)
  place = omega (arith, length-map fields base_said, inside)

  here : get_or (map base_said fields) i (base_said d) ≡ base_said (get_or fields i d)
  here = get_or-map base_said fields i d (base_said d) inside

  pub base_refused : None ≡ in_case (is_base_in_range (base_said (get_or fields i d))) (base_said (get_or fields i d)) →
      None ≡ in_case (list_all is_base_in_range (map base_said fields)) (map base_said fields)
  base_refused none =
      rw (list_all_at is_base_in_range (map base_said fields) i (base_said d) place
      (ap is_base_in_range here ∙ none_in_case _ _ none)) refl

  module _ (base : BaseSpec)
      (some : Some (base_of base)
      ≡ in_case (is_base_in_range (base_said (get_or fields i d))) (base_said (get_or fields i d))) where
    pub base_read : list_all is_base_in_range (take i (map base_said fields)) ≡ true →
        list_all is_base_in_range (take (i + 1) (map base_said fields)) ≡ true
    base_read so_far =
        list_all_more is_base_in_range (map base_said fields) i (base_said d) place
        ∙ and_from _ _ so_far (ap is_base_in_range here ∙ (some_in_case _ _ _ some).0)

    pub base_added : (bases new : List BaseSpec) → new ≡ bases ++ base ∷ [] →
        map base_of bases ≡ take i (map base_said fields) → map base_of new ≡ take (i + 1) (map base_said fields)
    base_added bases new pushed so_far =
        let more = take_more (map base_said fields) i (base_said d) place in
        rw (pushed, map-append base_of bases (base ∷ []), so_far, (some_in_case _ _ _ some).1, ← here, more) refl
