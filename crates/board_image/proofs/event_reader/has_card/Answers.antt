use Rattle.std.proofs.Common.{◌≡◌, Bool, List, [], ◌∷◌, inl, inr, refl, ◌∙◌, sym, rules, tests, ◌==◌, is_some, find}
use Rattle.board_prelude.proofs.{list_any, cases_Bool, YieldsList-from_slice, FittedCard}
use Rattle.std.proofs.lemmas.Iterator.Search.{any_from_yields_List}
use Rattle.board_image.proofs.event_reader.has_card.Goals as goal

found : {X : Type 0} (test : X → Bool) (all : List X) → is_some (find test all) ≡ list_any test all
found test [] = refl
found test (x ∷ later) =
    elim (cases_Bool (test x)) [
      | inl is ↦ rw is refl
      | inr not ↦ rw not (found test later)
    ]

pub returns : goal.returns
returns c = record {
  card =
      any_from_yields_List (λ (card : FittedCard). card.dev == c.args.dev) _ _ _ c.any.ensures.ran
      (YieldsList-from_slice c.args.cards.now cc) (λ x b q k. search (rules, tests))
      ∙ sym (found (λ (card : FittedCard). card.dev == c.args.dev) c.args.cards.now);
}
