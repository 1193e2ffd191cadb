-- An entry leaves the devices that its reply does not name, and with their drivers the lines. Pulses and then more
-- leave what all of them at once leave. A card's INTA# reaches the line to which it is routed.
use Rattle.board_prelude.proofs.{nat_tests, cond-false, out_of, is_hard_reset, wire_of, irq_of, triggers_of, plain_of}
use Rattle.board_prelude.proofs.{timer_of, clock_of, disk_with, out-alone, levels-same, pulses, Pair, PulsesAddUp}
use Rattle.board_prelude.proofs.{Pulses, Entry, Setup, pair_pulsed, timer-pulsed, triggers-pulsed, levels-pulsed}
use Rattle.board_prelude.proofs.{elcr-same, pair-pulsed, list_any, range_with_len, cases_Bool, and_parts, eq-eqb}
use Rattle.board_prelude.proofs.{eqb-true, drives, or_right, line_of_route, is_line_driven, pirq, byte_of, pirq_of_card}
use Rattle.board_prelude.proofs.{own_level, level_with, levels_with, levels_of, pirq_level, pirq_levels, routes_of}
use Rattle.std.proofs.Common.{arith, ◌∷◌, ◌∙◌, ap, inl, inr, ◌≡◌, ℕ, zero, suc, ◌+◌, List, refl, add-zero, add-suc, ◌≤◌}
use Rattle.std.proofs.Common.{◌<◌, Bool, true, false, ◌&&◌, get_or, Option, Some, ◌==◌}
use Rattle.board_laws.specs.DeviceLaws.{OthersStay, LinesStay, PulsesAdd, SomeWire, WireReachesLine, LineHasDriver}
use Rattle.std.proofs.lemmas.List.Folds.{Any-from_list_any, list_any_at}
use Rattle.std.proofs.lemmas.List.FromFn.{get_or-range_with_len, get_or-map-range_with_len, length-range_with_len}

pub others_stay : OthersStay
unfolding timer_of plain_of triggers_of clock_of disk_with wire_of irq_of
others_stay setup before entry next soft = grind (arith, nat_tests)

pub lines_stay : LinesStay
unfolding timer_of
lines_stay setup before entry next soft apart routes =
    let others = others_stay setup before entry next soft in
    levels-same setup (entry ∷ before) before (timer_of (entry ∷ before)) (timer_of before) (record {
      out =
          ap (out_of 0) (cond-false (is_hard_reset before entry.event) _ _ soft)
          ∙ out-alone setup before entry.event entry.reply (timer_of before) next.answer (λ e. apart (inl e));
      clock = others.clock (λ e. apart (inr (inl e)));
      disk = others.disk (λ e. apart (inr (inr (inl e))));
      wires = others.wires (λ e. apart (inr (inr (inr e))));
      lines = others.lines (λ e. apart (inr (inr (inr e))));
      routes = routes;
    })

-- ---- pulses

pulsed-on : (add : PulsesAddUp) (setup : Setup) (before : List Entry) (first : Entry) (n m : ℕ) (pair : Pair) →
    first.event ≡ Pulses n →
    pair_pulsed setup (first ∷ before) m (pair_pulsed setup before n pair) ≡ pair_pulsed setup before (n + m) pair
unfolding pair_pulsed
pulsed-on add setup before first n zero pair is = rw (add-zero n) refl
pulsed-on add setup before first n (suc m) pair is =
    rw (
      pulsed-on add setup before first n m pair is,
      timer-pulsed before first n is,
      ← (add n (suc m) (timer_of before)).0,
      levels-pulsed setup before first n (pulses (n + suc m) (timer_of before)) is,
      elcr-same (first ∷ before) before (triggers-pulsed before first n is),
      add-suc n m,
    ) refl

pub pulses_add : PulsesAddUp → PulsesAdd
pulses_add add setup before n m first second whole is_first is_second is_whole =
    let first_timer = timer-pulsed before first n is_first in
    let second_timer = timer-pulsed (first ∷ before) second m is_second in
    let whole_timer = timer-pulsed before whole (n + m) is_whole in
    let sum = (add n m (timer_of before)).0 in
    record {
      timer = cc;
      levels =
          cc (
            levels-pulsed setup (first ∷ before) second m (timer_of (second ∷ first ∷ before)) is_second,
            levels-pulsed setup before first n (timer_of (second ∷ first ∷ before)) is_first,
            levels-pulsed setup before whole (n + m) (timer_of (whole ∷ before)) is_whole,
          );
      pair =
          rw (
            pair-pulsed setup (first ∷ before) second m is_second,
            pair-pulsed setup before first n is_first,
            pair-pulsed setup before whole (n + m) is_whole,
          ) (pulsed-on add setup before first n m _ is_first);
    }

-- ---- ranges of numbers

-- a number of so many from one on that passes a test
record Passes (test : ℕ → Bool) (from count : ℕ) : Type 0 where
  pub number : ℕ
  pub above : from ≤ number
  pub below : number < from + count
  pub passes : test number ≡ true

passing : (test : ℕ → Bool) (from count : ℕ) → list_any test (range_with_len from count) ≡ true →
    Passes test from count
passing test from count any =
    let found = Any-from_list_any test (range_with_len from count) any in
    let inside : found.0 < count = omega (arith, found.2, length-range_with_len from count) in
    let is = get_or-range_with_len from count found.0 found.1 inside in
    record {
      number = found.1;
      above = omega (arith, is, found.3);
      below = omega (arith, is, found.3);
      passes = found.4;
    }

-- a line of the sixteen
level-at : (setup : Setup) (history : List Entry) (line : ℕ) → line < 16 →
    get_or (levels_of setup history) line false ≡ level_with setup history (timer_of history) line
unfolding levels_with
level-at setup history line below = grind (arith, nat_tests)

-- ---- a card's wire and its PIRQ

wire-pirq : (history : List Entry) (dev : ℕ) → 2 ≤ dev → dev ≤ 9 → wire_of history dev ≡ true →
    pirq_level history (pirq_of_card dev) ≡ true
wire-pirq history dev first last high = grind (arith, nat_tests)

-- ---- a PIRQ and its route

abbrev pin_drives : Setup → List Entry → ℕ → ℕ → Bool
pin_drives setup history line pin =
    drives (line_of_route (get_or (routes_of setup history) pin 0)) (get_or (pirq_levels history) pin false) line

pin-is : (setup : Setup) (history : List Entry) (line pin : ℕ) → pin < 4 →
    pin_drives setup history line pin ≡ drives (line_of_route (byte_of setup history (pirq pin)))
    (pirq_level history pin) line
pin-is setup history line pin below =
    rw (
      get_or-map-range_with_len (λ k. byte_of setup history (pirq k)) 0 4 pin pin 0 below (omega arith),
      get_or-map-range_with_len (pirq_level history) 0 4 pin pin false below (omega arith),
    ) refl

driven-by : (route : Option ℕ) (level : Bool) (line : ℕ) → drives route level line ≡ true →
    (route ≡ Some line) × (level ≡ true)
driven-by route level line is = grind (arith, nat_tests)

-- ---- both ways

pub wire_reaches_line : WireReachesLine
unfolding is_line_driven
wire_reaches_line setup history line dev below wire =
    let pin : ℕ = pirq_of_card dev in
    let place : get_or (range_with_len 0 4) pin 0 ≡ pin =
    omega (arith, get_or-range_with_len 0 4 pin 0 (omega arith)) in
    let here : pin_drives setup history line pin ≡ true =
    pin-is setup history line pin (omega arith)
    ∙ rw (wire.routed, wire-pirq history dev wire.first wire.last wire.high) (eq-eqb line line refl) in
    level-at setup history line below ∙ or_right (own_level setup history (timer_of history) line) _
    (list_any_at (pin_drives setup history line) (range_with_len 0 4) pin 0 (omega arith) (rw place here))

some_wire : (setup : Setup) (history : List Entry) (line : ℕ) → is_line_driven (routes_of setup history)
    (pirq_levels history) line ≡ true → SomeWire setup history line
unfolding is_line_driven
some_wire setup history line driven =
    let pin = passing (pin_drives setup history line) 0 4 driven in
    let by = driven-by _ _ line (rw (pin-is setup history line pin.number pin.below) at pin.passes) in
    let wire = passing (λ dev. pirq_of_card dev == pin.number && wire_of history dev) 2 8 by.1 in
    let parts = and_parts (pirq_of_card wire.number == pin.number) (wire_of history wire.number) wire.passes in
    let pirq_is = eqb-true (pirq_of_card wire.number) pin.number parts.0 in
    let last : wire.number ≤ 9 = omega (arith, wire.below) in
    record { dev = wire.number; drives = assumption (wire.above, last, parts, rw (← pirq_is) at by.0) }

pub line_has_driver : LineHasDriver
line_has_driver setup history line below high =
    let level = rw (level-at setup history line below) at high in
    elim (cases_Bool (own_level setup history (timer_of history) line)) [
      | inl own ↦ inl own
      | inr not_own ↦ inr (some_wire setup history line (rw not_own at level))
    ]
