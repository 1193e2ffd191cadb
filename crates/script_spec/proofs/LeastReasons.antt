-- The least reason for an item, where each test of the seven is known.
use Rattle.std.proofs.Common.{◌≡◌, ℕ, Bool, not, ◌&&◌, Option, List, [], ◌∷◌, find}
use Rattle.board_prelude.proofs.{option_map}
use Rattle.script_spec.specs.Grammar.{Item}
use Rattle.script_spec.specs.Reasons.{reason, is_phase, lacks_setup, is_misplaced, is_repeated, is_in_range, is_placed}
use Rattle.script_spec.specs.Reasons.{is_there, passes_limits, least_reason}

abbrev pub first_of : (a b c d e f g : Bool) → Option ℕ
first_of a b c d e f g =
    option_map (λ r. r.why) (find (λ r. r.holds)
    (reason 4 a ∷ reason 5 b ∷ reason 6 c ∷ reason 7 d ∷ reason 8 e ∷ reason 9 f ∷ reason 10 g ∷ []))

pub first_is : (a b c d e f g : Bool) (items : List Item) (item : Item) → is_misplaced items item ≡ a →
    is_repeated items item ≡ b → (is_phase item && lacks_setup items) ≡ c → is_in_range item ≡ d → is_placed item ≡ e →
    is_there items item ≡ f → passes_limits (item ∷ items) ≡ g → least_reason items item ≡ first_of a b c (not d)
    (not e) (not f) g
unfolding least_reason
first_is a b c d e f g items item ea eb ec ed ee ef eg i =
    first_of (ea i) (eb i) (ec i) (not (ed i)) (not (ee i)) (not (ef i)) (eg i)
