use Rattle.std.proofs.Common.{rules, ◌≡◌, ◌∷◌, ◌++◌, [], List, ◌∙◌, refl, ap, arith}
use Rattle.board_prelude.proofs.{common_steps, Entry}
use Rattle.board_core.specs.Kept.{Standing}
use Rattle.board_core.proofs.board.Board.steps.Goals as goal

pub loop-statement-init : goal.loop-statement-init
loop-statement-init c = record {
  setup = refl;
  room = search rules;
  same = grind (arith, common_steps);
  grows = ([], refl);
}

grown : (before now opened : List Entry) (entry : Entry) → now ≡ entry ∷ before →
    (more : List Entry) × (before ≡ more ++ opened) → (more : List Entry) × (now ≡ more ++ opened)
grown before now opened entry is (more, was) = (entry ∷ more, is ∙ ap (λ (w : List Entry). entry ∷ w) was)

pub loop-statement-preserved : goal.loop-statement-preserved
loop-statement-preserved c = record {
  setup = search rules;
  room = search rules;
  same = grind (arith, common_steps);
  grows =
      grown _ _ _ _ (ap (λ (board : Standing). board.entries) c.step.ensures.entry) c.loop-statement.invariant.grows;
}
