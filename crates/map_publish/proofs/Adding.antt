-- The steps on the length of the list keep the rule.
use Rattle.std.proofs.Common.{◌≡◌, ℕ, ◌+◌, ◌==◌, Bool, true, false, List, [], ◌∷◌, ◌++◌, length, refl, ap, sym, arith}
use Rattle.std.proofs.Common.{inl, length-append, None}
use Rattle.board_prelude.proofs.{append-nil, nat_tests}
use mathlib.Core.List.{IsPrefix}
use prog.Atomic.{either}
use Rattle.logbook.specs.Pages.{keeps, no_nib, step, Moves, Goes}
use Rattle.map_publish.specs.declared.mark.Mark.{Mark}
use Rattle.map_publish.specs.Fronts.{KeepsLength, AddsStep}
use Rattle.map_publish.proofs.Fronts.{prefix_whole}

abbrev pub shown : List Mark → List Mark
shown log = []

abbrev pub moved : List Mark → List Mark → ℕ → Type 0
moved xs ys n = Unit {0}

pub adds_goes : (log v : List Mark) (e : Mark) (old : ℕ) → length v ≡ old → IsPrefix v log → (b : Bool) →
    (length log == old) ≡ b → Goes KeepsLength shown moved 0 (v, (no_nib, None)) (λ n. either (n == old) (old + 1) n)
    (AddsStep (step 0 old (old + 1) e) (v, (no_nib, None))) ((length log, true) ∷ (0, true) ∷ []) log
adds_goes log v e old len pre true is =
    let here : length log ≡ old = grind (arith, nat_tests) in
    let same : v ≡ log = prefix_whole v log pre (omega arith) in
    let n : either (length log == old) (old + 1) (length log) ≡ length (log ++ e ∷ []) =
    rw is (omega (arith, length-append log (e ∷ []))) in
    let told = ap (λ (k : ℕ). (k, true) ∷ (0, true) ∷ []) n in
    (keeps, e ∷ [], None, tt, record { words = told }, inl (refl, refl), rw is (ap (λ w. w ++ e ∷ []) (sym same)))
adds_goes log v e old len pre false is =
    let all : log ++ [] ≡ log = append-nil log in
    let n : either (length log == old) (old + 1) (length log) ≡ length (log ++ []) = rw is (ap length (sym all)) in
    let told = ap (λ (k : ℕ). (k, true) ∷ (0, true) ∷ []) n in
    (keeps, [], None, tt, record { words = told }, inl (refl, refl), rw is tt)

pub adds_moves : (v : List Mark) (e : Mark) (old : ℕ) → length v ≡ old
    → Moves KeepsLength shown moved 0 (v, (no_nib, None)) (λ n. either (n == old) (old + 1) n)
    (AddsStep (step 0 old (old + 1) e) (v, (no_nib, None)))
adds_moves v e old len cs log kept pre away =
    rw kept.words (omega arith, refl, adds_goes log v e old len pre (length log == old) refl)
