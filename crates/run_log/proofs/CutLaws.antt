-- A text that is cut at the ends of its lines.
use Rattle.std.proofs.Common.{◌≡◌, ℕ, zero, suc, ◌+◌, ◌-◌, ◌<◌, ◌≤◌, ◌++◌, List, [], ◌∷◌, length, take, drop, get_or}
use Rattle.std.proofs.Common.{refl, ap, arith}
use Rattle.board_prelude.proofs.{drop-append-le, drop-append_seam, length-append, length-drop, take_all, take-append-le}
use Rattle.run_log.specs.Cuts.{AreEnds, IsPart, cut_at}

pub ends_within : (start : ℕ) (ends : List ℕ) (size : ℕ) → AreEnds start ends size → start ≤ size
ends_within start [] size are = omega (arith, are)
ends_within start (end ∷ ends) size are = let rest = ends_within end ends size are.1 in omega (arith, are.0, rest)

pub ends_pushed : (start : ℕ) (ends : List ℕ) (size more : ℕ) → AreEnds start ends size → size ≤ more
    → AreEnds start (ends ++ more ∷ []) more
ends_pushed start [] size more are less = (omega (arith, are, less), refl)
ends_pushed start (end ∷ ends) size more are less = (are.0, ends_pushed end ends size more are.1 less)

-- a text that grows keeps its parts
kept : (text line : List ℕ) (start end : ℕ) → start ≤ end → end ≤ length text
    → take (end - start) (drop start (text ++ line)) ≡ take (end - start) (drop start text)
kept text line start end rises within =
    let cut = drop-append-le start text line (omega (arith, rises, within)) in
    let size = length-drop start text in
    rw cut (take-append-le (end - start) (drop start text) line (omega (arith, size, within)))

last_part : (text line : List ℕ) (start end : ℕ) → start ≡ length text → end ≡ length (text ++ line)
    → take (end - start) (drop start (text ++ line)) ≡ line
last_part text line start end is end_is =
    let size = length-append text line in
    rw (is, drop-append_seam text line) (take_all (end - length text) line (omega (arith, end_is, size)))

pub cut_pushed : (start : ℕ) (ends text line : List ℕ) (end : ℕ) → AreEnds start ends (length text)
    → end ≡ length (text ++ line)
    → cut_at start (ends ++ end ∷ []) (text ++ line) ≡ cut_at start ends text ++ line ∷ []
cut_pushed start [] text line end are is = rw (last_part text line start end are is) refl
cut_pushed start (first ∷ ends) text line end are is =
    rw (
      kept text line start first are.0 (ends_within first ends (length text) are.1),
      cut_pushed first ends text line end are.1 is,
    ) refl

pub cut_length : (start : ℕ) (ends text : List ℕ) → length (cut_at start ends text) ≡ length ends
cut_length start [] text = refl
cut_length start (end ∷ ends) text = ap (λ (n : ℕ). suc n) (cut_length end ends text)

-- a part starts where the one before it ends
pub cut_part : (start : ℕ) (ends text : List ℕ) (i from to : ℕ) → AreEnds start ends (length text) → i < length ends
    → to ≡ get_or ends i 0 → (i ≡ 0 → from ≡ start)
    → ((before : ℕ) → i ≡ before + 1 → from ≡ get_or ends before 0) → IsPart start ends text i from to
cut_part start [] text i from to are less last first later = absurd (omega (arith, less))
cut_part start (end ∷ ends) text zero from to are less last first later =
    rw (first refl, last) (record {
      rises = are.0;
      within = ends_within end ends (length text) are.1;
      part = refl;
    })
cut_part start (end ∷ ends) text (suc i) from to are less last first later =
    let rest = cut_part end ends text i from to are.1 (omega (arith, less)) last
    (λ none. later 0 (omega (arith, none)))
    (λ before is. later (suc before) (omega (arith, is))) in
    record { rises = rest.rises; within = rest.within; part = rest.part }
