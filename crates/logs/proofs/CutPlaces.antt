-- Where a text is cut.
use Rattle.board_prelude.proofs.{nat_tests, position_or_len, take_rest}
use Rattle.std.proofs.Common.{◌≡◌, ℕ, ◌+◌, ◌-◌, Bool, cond, eqb, ltb, Option, Some, None, List, [], ◌∷◌, length, take}
use Rattle.std.proofs.Common.{drop, refl, arith}
use Rattle.std.proofs.lemmas.Option.{cond_some}
use Rattle.script_spec.specs.Cuts.{cut}
use Rattle.scripts.proofs.FieldLemmas.{nowhere}

abbrev pub is_mark : ℕ → ℕ → Bool
is_mark mark byte = eqb byte mark

abbrev place_of : ℕ → List ℕ → ℕ
place_of mark text = position_or_len (is_mark mark) text

-- at a place, if it is one
abbrev cut_to : (place : ℕ) → List ℕ → Option (List ℕ × List ℕ)
cut_to place text = cond (ltb place (length text)) (Some (take place text, drop (place + 1) text)) None

cut_is : (mark : ℕ) (text : List ℕ) → cut mark text ≡ cut_to (place_of mark text) text
unfolding cut
cut_is mark [] = refl
cut_is mark (c ∷ cs) = grind (arith, nat_tests, cut_is mark cs)

abbrev place : ℕ → List ℕ → Option ℕ
place mark text = cond (ltb (place_of mark text) (length text)) (Some (place_of mark text)) None

pub cut_at : (mark : ℕ) (text : List ℕ) (end : ℕ) → place mark text ≡ Some end
    → Some (take end text, take (length text - (end + 1)) (drop (end + 1) text)) ≡ cut mark text
cut_at mark text end found = grind (arith, nat_tests, cond_some, take_rest, cut_is)

pub uncut : (mark : ℕ) (text : List ℕ) → place mark text ≡ None → None ≡ cut mark text
uncut mark text none = grind (arith, nat_tests, nowhere, cut_is)
