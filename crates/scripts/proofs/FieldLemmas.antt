-- A line up to its first space, and after it.
use Rattle.board_prelude.proofs.{nat_tests, position_or_len, ltb-false, take_rest}
use Rattle.std.proofs.Common.{◌≡◌, ℕ, ◌+◌, ◌-◌, Bool, false, cond, eqb, ltb, Option, Some, None, List, [], ◌∷◌, length}
use Rattle.std.proofs.Common.{take, drop, arith}
use Rattle.std.proofs.lemmas.Option.{cond_some}
use Rattle.std.proofs.lemmas.List.Splits.{slice_split_first, slice_split_none}
use Rattle.std.proofs.lemmas.List.Sums.{fails_before_first}
use Rattle.script_spec.specs.Fields.{fields_of}

abbrev pub is_space : ℕ → Bool
is_space byte = eqb byte 32

-- the place of the first space, if there is one
abbrev space_place : List ℕ → Option ℕ
space_place text = cond (ltb (position_or_len is_space text) (length text)) (Some (position_or_len is_space text)) None

pub cut_at : (text : List ℕ) (end : ℕ) → space_place text ≡ Some end
    → fields_of text ≡ take end text ∷ fields_of (take (length text - (end + 1)) (drop (end + 1) text))
cut_at text end found = grind (arith, nat_tests, cond_some, take_rest, slice_split_first)

pub nowhere : (b : Bool) (n : ℕ) → cond b (Some n) None ≡ None → b ≡ false
nowhere b n e = grind (arith, nat_tests)

pub uncut : (text : List ℕ) → space_place text ≡ None → fields_of text ≡ text ∷ []
uncut text none = grind (arith, nat_tests, ltb-false, nowhere, slice_split_none, fails_before_first)
