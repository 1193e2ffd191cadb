-- The levels that the pair heard last are those of the lines after a history.
use Rattle.std.proofs.Common.{◌≡◌, ℕ, ◌+◌, ◌*◌, ◌^◌, ◌<◌, ◌&&◌, Bool, false, not, ◌==◌, List, [], ◌∷◌, ◌++◌, length, take}
use Rattle.std.proofs.Common.{drop, refl, sym, ap, subst, ◌∙◌, arith}
use Rattle.std.proofs.Math.Nat.{mul_assoc, pow-succ'}
use Rattle.board_prelude.proofs.{common_steps, nat_tests, or-false, reserved-rest, Levels, has, byte_of_levels}
use Rattle.board_prelude.proofs.{levels_where-same, Pair, master_inputs, same-levels, Entry, Setup, levels_of}
use Rattle.board_prelude.proofs.{levels_with, elcr_of, pair_of, pair_has_seen}
use Rattle.device_spec.proofs.Levels.{levels_where-has}
use Rattle.std.proofs.lemmas.List.{take-append-drop}
use Rattle.pic_pair.specs.Lines.{heard_lines}
use Rattle.board_devices.proofs.StandingLines.{Sees, lines_seen}

-- the number of two sets of levels, one behind the other
both : (low high : List Bool) →
    byte_of_levels (low ++ high) ≡ byte_of_levels low + 2 ^ length low * byte_of_levels high
unfolding byte_of_levels
both [] high = omega arith
both (level ∷ low) high =
    let twice : 2 ^ length (level ∷ low) * byte_of_levels high ≡ 2 * (2 ^ length low * byte_of_levels high) =
    ap (λ (n : ℕ). n * byte_of_levels high) (pow-succ' 2 (length low))
    ∙ mul_assoc 2 (2 ^ length low) (byte_of_levels high) in
    omega (arith, twice, both low high)

-- without a level that is not in it a set is as it was
no_cascade : (set : Levels) → length set ≡ 8 → has set 2 ≡ false → master_inputs set ≡ set
no_cascade set eight none =
    levels_where-same _ (λ level. has set level) (λ level small. grind (arith, nat_tests)) ∙ levels_where-has set eight

-- line 2 is always at 0: none can set it, and no pin is routed to it
line_2_low : (setup : Setup) (history : List Entry) → has (take 8 (levels_of setup history)) 2 ≡ false
unfolding levels_with
line_2_low setup history = grind (arith, nat_tests, common_steps, reserved-rest, or-false)

eight_low : (setup : Setup) (history : List Entry) → length (take 8 (levels_of setup history)) ≡ 8
unfolding levels_with
eight_low setup history = refl

-- the levels of a pair that sees lines of which line 2 is at 0
seen_number : (levels : List Bool) (elcr : ℕ) (pair : Pair) → length (take 8 levels) ≡ 8 →
    has (take 8 levels) 2 ≡ false → Sees levels elcr pair → heard_lines pair ≡ byte_of_levels levels
seen_number levels elcr pair eight none sees =
    let master : pair.master.inputs ≡ take 8 levels =
    sees.master.inputs_are ∙ no_cascade (take 8 levels) eight none in
    let whole : byte_of_levels (take 8 levels ++ drop 8 levels)
    ≡ byte_of_levels (take 8 levels) + 2 ^ length (take 8 levels) * byte_of_levels (drop 8 levels) =
    both (take 8 levels) (drop 8 levels) in
    rw (master, sees.slave.inputs_are) (sym (rw (take-append-drop 8 levels, eight) at whole))

pub heard_levels : (setup : Setup) (history : List Entry) →
    heard_lines (pair_of setup history) ≡ byte_of_levels (levels_of setup history)
heard_levels setup history =
    let levels = levels_of setup history in
    let elcr = elcr_of history in
    seen_number levels elcr (pair_of setup history) (eight_low setup history) (line_2_low setup history)
    (subst (Sees levels elcr) (pair_has_seen same-levels setup history)
    (lines_seen levels elcr (pair_of setup history)))
