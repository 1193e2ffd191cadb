-- The phases of a script as lists.
use Rattle.std.proofs.Common.{ℕ, ◌≡◌, ◌+◌, ◌<◌, ◌≤◌, List, [], ◌∷◌, ◌++◌, length, take, drop, get_or, All, refl, ap}
use Rattle.std.proofs.Common.{sym, ◌∙◌, length-append, add-one, arith}
use Rattle.board_prelude.proofs.{common_steps, nat_tests, Vec, Global, drop-cons, flat_map-append, map-append}
use Rattle.board_prelude.proofs.{take-append-drop, take_more, in_file_order}
use Rattle.board_prelude.specs.{Statement}
use Rattle.script_spec.specs.Phases.{lists_of}
use Rattle.log_check.proofs.NextStatements.{all_parts}

-- the statements of the phases before one, those of this one, and those after it
pub statements_cut : (before : List (List Statement)) (phase : List Statement) (later : List (List Statement)) →
    in_file_order (before ++ phase ∷ later) ≡ in_file_order before ++ (phase ++ in_file_order later)
statements_cut before phase later = flat_map-append (λ (p : List Statement). p) before (phase ∷ later)

pub length_cut :
    (before : List (List Statement)) (phase : List Statement) (later : List (List Statement)) →
    length (in_file_order (before ++ phase ∷ later))
    ≡ length (in_file_order before) + (length phase + length (in_file_order later))
length_cut before phase later = grind (arith, nat_tests, common_steps, statements_cut, length-append, in_file_order)

pub all_of_phase : (P : Statement → Type 0) (before : List (List Statement)) (phase : List Statement)
    (later : List (List Statement)) → All P (in_file_order (before ++ phase ∷ later)) → All P phase
all_of_phase P before phase later all = grind (arith, nat_tests, statements_cut, all_parts)

-- the phases before one, this one, and those after it
module _ (phases : List (Vec Statement Global)) (i : ℕ) (phase : Vec Statement Global) (within : i < length phases)
    (is : phase ≡ get_or phases i phase) where
  pub phases_cut : lists_of phases ≡ lists_of (take i phases) ++ phase.items ∷ lists_of (drop (i + 1) phases)
  phases_cut =
      ap lists_of (sym (take-append-drop i phases))
      ∙ map-append (λ (p : Vec Statement Global). p.items) (take i phases) (drop i phases)
      ∙ rw (drop-cons phases i phase within, add-one i, ← is) refl

  pub phases_more : lists_of (take (i + 1) phases) ≡ lists_of (take i phases) ++ phase.items ∷ []
  phases_more = grind (arith, nat_tests, common_steps, take_more, map-append)

  pub few_so_far :
      length (in_file_order (lists_of (take i phases))) + length phase.items ≤ length (in_file_order (lists_of phases))
  few_so_far =
      rw (phases_cut, length_cut (lists_of (take i phases)) phase.items (lists_of (drop (i + 1) phases))) (omega arith)

  -- as many statements with this one as without it and in it
  pub length_more :
      length (in_file_order (lists_of (take (i + 1) phases)))
      ≡ length (in_file_order (lists_of (take i phases))) + length phase.items
  length_more = rw (phases_more, length_cut (lists_of (take i phases)) phase.items []) (omega arith)

  -- what holds of all statements holds of those of a phase
  pub all_in_phase : (P : Statement → Type 0) → All P (in_file_order (lists_of phases)) → All P phase.items
  all_in_phase P all = all_of_phase P (lists_of (take i phases)) phase.items (lists_of (drop (i + 1) phases))
      (rw phases_cut at all)
