-- The laws of the interrupt controllers.
use Rattle.std.proofs.Common.{◌≡◌, ℕ, ◌+◌, ◌/◌, ◌%◌, ◌<◌, true, false, not, eqb, ◌&&◌, Some, None, List, [], ◌∷◌}
use Rattle.std.proofs.Common.{get_or, refl, ap, ◌∙◌, inl, inr, arith, is_some, suc, cond, length, drop, sym}
use Rattle.std.proofs.Common.{length-append, ◌++◌, take, All, ◌≢◌}
use Rattle.board_prelude.proofs.{cases_Bool, agree_below_at, eqb-true, eq-eqb, and_parts, nat_tests, not-true}
use Rattle.board_prelude.proofs.{false≢true, Levels, has, levels_where, with_level, without_level, Chip, pending}
use Rattle.board_prelude.proofs.{priority_order, is_blocking, blocks_itself, is_requested, request, interrupt}
use Rattle.board_prelude.proofs.{acknowledged_if, chip_after_write, Pair, pair_after_acknowledge, settled}
use Rattle.board_prelude.proofs.{has-levels_where, scan, request-is, is_bit, cases_lt, get_or-append_seam}
use Rattle.board_prelude.proofs.{get_or_append_left, first_blocking, first_blocking-is, priority_order-small}
use Rattle.board_prelude.proofs.{first_selectable, chip_after_read, All-head, All-tail, get_or-take, get_or_default}
use Rattle.board_prelude.proofs.{take-append-drop, drop-cons, length-take, find-append}
use Rattle.std.proofs.lemmas.Bool.{agree_below, false_from_ne_true}
use Rattle.board_laws.specs.PicLaws.{IsFirstInOrder, EndsOne, StaysLatched, place_of, InterruptIsSelected}
use Rattle.board_laws.specs.PicLaws.{SelectedInterrupts, NonSpecificEndEndsFirst, NonSpecificEndOfNone}
use Rattle.board_laws.specs.PicLaws.{ReadsLeaveTheOther, SpecificEndEndsOne}
use Rattle.device_spec.specs.Pic.{ended}
use Rattle.std.proofs.lemmas.List.Sums.{AllPass-from_list_all}
use Rattle.board_laws.proofs.Searches.{find-none}

-- ---- the order

pub priorities : (lowest place : ℕ) → lowest < 8 → place < 8 →
    get_or (priority_order lowest) place 0 ≡ (lowest + 1 + place) % 8
priorities lowest place hl hp =
    let goes_round_at = λ (lowest place : ℕ). eqb (get_or (priority_order lowest) place 0) ((lowest + 1 + place) % 8) in
    let goes_round = λ (lowest : ℕ). agree_below (goes_round_at lowest) (λ _. true) 8 in
    let here = agree_below_at goes_round (λ _. true) 8 lowest refl hl in
    eqb-true _ _ (agree_below_at (goes_round_at lowest) (λ _. true) 8 place here hp)

-- ---- the level that INT stands for

-- a quiet level before others changes nothing
after-quiet : (chip : Chip) (x : ℕ) (xs : List ℕ) (level : ℕ) → is_requested chip x ≡ false →
    is_blocking chip x ≡ false → IsFirstInOrder chip xs level → IsFirstInOrder chip (x ∷ xs) level
after-quiet chip x xs level quiet idle rest = record {
  higher = x ∷ rest.higher;
  lower = rest.lower;
  place = ap (λ ys. x ∷ ys) rest.place;
  asks = rest.asks;
  free = rest.free;
  first = rw (quiet, idle) rest.first;
}

-- what a search finds is first in the order
found-first : (chip : Chip) (order : List ℕ) (level : ℕ) → scan chip order ≡ Some level →
    IsFirstInOrder chip order level
unfolding scan
found-first chip [] level e = cc
found-first chip (x ∷ xs) level e =
    elim (cases_Bool (is_requested chip x && not (blocks_itself chip x))) [
      | inl found ↦
          let here : x ≡ level = (let e' = rw found at e in cc) in
          record {
            higher = [];
            lower = xs;
            place = ap (λ y. y ∷ xs) {y = level} here;
            asks = rw (← here) (grind (arith, nat_tests));
            free = rw (← here) (grind (arith, nat_tests));
            first = refl;
          }
      | inr not_here ↦
          let open_level : is_blocking chip x ≡ false = grind (arith, nat_tests) in
          after-quiet chip x xs level (grind (arith, nat_tests)) open_level
          (found-first chip xs level (rw (not_here, open_level) at e))
    ]

pub interrupt_first : (chip : Chip) (level : ℕ) → interrupt chip ≡ Some level →
    IsFirstInOrder chip (priority_order chip.lowest) level
interrupt_first chip level e = grind (arith, nat_tests, found-first, priority_order, request-is)

pub interrupt_unmasked : (chip : Chip) (level : ℕ) → interrupt chip ≡ Some level → has chip.masked level ≡ false
interrupt_unmasked chip level e =
    not-true (has chip.masked level) (and_parts (has (pending chip) level) _ (interrupt_first chip level e).asks).1

pub interrupt_small : (chip : Chip) (level : ℕ) → interrupt chip ≡ Some level → level < 8
unfolding pending levels_where
interrupt_small chip level e = let first = interrupt_first chip level e in grind (arith, nat_tests, first.asks)

-- a level joins the set that it is put into
pub with_level_has : (set : Levels) (level : ℕ) → level < 8 → has (with_level set level) level ≡ true
with_level_has set level small = grind (arith, nat_tests, has-levels_where, eqb, has, eq-eqb)

pub settled_slave : (pair : Pair) → (settled pair).slave ≡ pair.slave
settled_slave pair = grind (arith, nat_tests)

-- ---- a specific end of interrupt

-- a set without a level, in the place of the set in service
without-one : (chip : Chip) (level : ℕ) → level < 8 →
    EndsOne chip (record chip { in_service = without_level chip.in_service level }) level
without-one chip level small = grind (arith, nat_tests, has-levels_where)

specific-end : (chip : Chip) (byte : ℕ) → is_bit byte 4 ≡ false → is_bit byte 3 ≡ false → byte / 32 ≡ 3 →
    chip_after_write chip false byte ≡ record chip { in_service = without_level chip.in_service (byte % 8) }
unfolding chip_after_write
specific-end chip byte b4 b3 command = rw (b4, b3, command) refl

pub specific_ends_one : SpecificEndEndsOne
specific_ends_one chip byte b4 b3 command =
    rw (specific-end chip byte b4 b3 command) (without-one chip (byte % 8) (omega arith))

-- ---- the slave's request

pub stays_latched : StaysLatched
unfolding pair_after_acknowledge
stays_latched = grind (arith, nat_tests, false≢true, with_level_has, settled_slave)

-- ---- the order by places

eight : (lowest : ℕ) → lowest < 8 → length (priority_order lowest) ≡ 8
eight lowest h =
    let has_eight = λ (lowest : ℕ). eqb (length (priority_order lowest)) 8 in
    eqb-true _ 8 (agree_below_at has_eight (λ _. true) 8 lowest refl h)

level_at : (lowest level : ℕ) → lowest < 8 → level < 8 →
    get_or (priority_order lowest) (place_of lowest level) 0 ≡ level
level_at lowest level h g = priorities lowest (place_of lowest level) h (omega arith) ∙ omega arith

place_at : (lowest place : ℕ) → lowest < 8 → place < 8 →
    place_of lowest (get_or (priority_order lowest) place 0) ≡ place
place_at lowest place h g = ap (place_of lowest) (priorities lowest place h g) ∙ omega arith

-- the order is cut at a level. Where every other level that blocks stands after it, none before it blocks
record CutAt (chip : Chip) (level : ℕ) : Type 0 where
  higher : List ℕ
  lower : List ℕ
  order : higher ++ level ∷ lower ≡ priority_order chip.lowest
  idle : All (λ other. is_blocking chip other ≡ false) higher

cut_at : (chip : Chip) (level : ℕ) → chip.lowest < 8 → level < 8 →
    ((other : ℕ) → other < 8 → other ≢ level → is_blocking chip other ≡ true →
    place_of chip.lowest level < place_of chip.lowest other) → CutAt chip level
cut_at chip level h inside first =
    let order : List ℕ = priority_order chip.lowest in
    let place : ℕ = place_of chip.lowest level in
    let long : length order ≡ 8 = eight chip.lowest h in
    record {
      higher = take place order;
      lower = drop (suc place) order;
      order =
          ap (λ other. take place order ++ other ∷ drop (suc place) order) (sym (level_at chip.lowest level h inside))
          ∙ ap (λ rest. take place order ++ rest) (sym (drop-cons order place 0 (omega arith)))
          ∙ take-append-drop place order;
      idle = λ k d below.
          let early : k < place = omega (arith, below, length-take place order) in
          let other : ℕ = get_or order k 0 in
          let is = get_or-take place order k d early ∙ get_or_default order k d 0 (omega arith) in
          rw is (false_from_ne_true (is_blocking chip other) (λ blocks.
          let there = place_at chip.lowest k h (omega arith) in
          let apart : other ≢ level = λ same. omega (arith, ap (place_of chip.lowest) same, there, early) in
          omega (arith, first other (priority_order-small chip.lowest k h (omega arith)) apart blocks, there, early)));
    }

-- ---- what INT stands for

-- the search ends at a level that can be selected, or at one before it
some_selected : (chip : Chip) (higher : List ℕ) (level : ℕ) (lower : List ℕ) →
    All (λ other. is_blocking chip other ≡ false) higher →
    (is_requested chip level && not (blocks_itself chip level)) ≡ true →
    is_some (scan chip (higher ++ level ∷ lower)) ≡ true
unfolding scan
some_selected chip [] level lower idle asks = rw asks refl
some_selected chip (x ∷ xs) level lower idle asks =
    elim (cases_Bool (is_requested chip x && not (blocks_itself chip x))) [
      | inl found ↦ rw found refl
      | inr other ↦
          rw (other, All-head (λ other. is_blocking chip other ≡ false) x xs idle)
          (some_selected chip xs level lower (All-tail (λ other. is_blocking chip other ≡ false) x xs idle) asks)
    ]

pub selected_interrupts : SelectedInterrupts
selected_interrupts chip level h ready can =
    let cut = cut_at chip level h can.inside can.first in
    ap (λ b. is_some (cond b (request chip) None)) ready ∙ ap is_some (request-is chip _ cut.order)
    ∙ some_selected chip cut.higher level cut.lower cut.idle
    (grind (arith, nat_tests, can.asks, can.unmasked, can.free))

-- a level before the one that INT stands for neither asks nor blocks
quiet-before : (chip : Chip) (level other : ℕ) → IsFirstInOrder chip (priority_order chip.lowest) level →
    chip.lowest < 8 → other < 8 → place_of chip.lowest other < place_of chip.lowest level →
    (is_requested chip other ≡ false) × (is_blocking chip other ≡ false)
quiet-before chip level other first h inside early =
    let long = eight chip.lowest h in
    let sum = ap length first.place ∙ length-append first.higher (level ∷ first.lower) in
    let here : get_or (priority_order chip.lowest) (length first.higher) 0 ≡ level =
    rw first.place (get_or-append_seam first.higher level first.lower 0) in
    let place : place_of chip.lowest level ≡ length first.higher =
    rw here at (place_at chip.lowest (length first.higher) h (omega arith)) in
    let there : get_or first.higher (place_of chip.lowest other) 0 ≡ other =
    rw (
      ← get_or_append_left first.higher (level ∷ first.lower) 0 (place_of chip.lowest other) (omega arith),
      ← first.place,
    ) (level_at chip.lowest other h inside) in
    let quiet : (not (is_requested chip other) && not (is_blocking chip other)) ≡ true =
    rw there at (AllPass-from_list_all (λ it. not (is_requested chip it) && not (is_blocking chip it)) first.higher
    first.first (place_of chip.lowest other) 0 (omega arith)) in
    grind (arith, nat_tests)

pub interrupt_selected : InterruptIsSelected
interrupt_selected chip level h e =
    let first = interrupt_first chip level e in
    record {
      ready = grind (arith, nat_tests);
      can = record {
        inside = interrupt_small chip level e;
        asks = grind (arith, nat_tests, first.asks);
        unmasked = interrupt_unmasked chip level e;
        free = first.free;
        first = λ other inside apart blocks.
            elim (cases_lt (place_of chip.lowest other) (place_of chip.lowest level)) [
              | inl early ↦ absurd (false≢true (sym (quiet-before chip level other first h inside early).1 ∙ blocks))
              | inr late ↦ omega (arith, interrupt_small chip level e)
            ];
      };
      first = λ other can. elim (cases_lt (place_of chip.lowest other) (place_of chip.lowest level)) [
        | inl early ↦ absurd (let q = (quiet-before chip level other first h can.inside early).0 in
            grind (arith, nat_tests, q, can.asks, can.unmasked))
        | inr late ↦ late
      ];
    }

-- ---- what a non-specific end of interrupt ends

non-specific : (chip : Chip) (byte : ℕ) → is_bit byte 4 ≡ false → is_bit byte 3 ≡ false → byte / 32 ≡ 1 →
    chip_after_write chip false byte ≡ ended false chip (first_blocking chip)
unfolding chip_after_write
non-specific chip byte b4 b3 command = rw (b4, b3, command) refl

pub non_specific_first : NonSpecificEndEndsFirst
non_specific_first chip byte level h b4 b3 command first =
    let cut = cut_at chip level h first.inside first.first in
    let is : first_blocking chip ≡ Some level =
    first_blocking-is chip _ cut.order
    ∙ rw (
      find-append (is_blocking chip) cut.higher (level ∷ cut.lower),
      find-none (is_blocking chip) cut.higher cut.idle,
      first.served,
    ) refl in
    rw (non-specific chip byte b4 b3 command, is) (without-one chip level first.inside)

pub non_specific_none : NonSpecificEndOfNone
non_specific_none chip byte h b4 b3 command none =
    let order : List ℕ = priority_order chip.lowest in
    let idle : All (λ level. is_blocking chip level ≡ false) order = λ k d below.
    rw (get_or_default order k d 0 below)
    (none _ (priority_order-small chip.lowest k h (omega (arith, eight chip.lowest h, below)))) in
    non-specific chip byte b4 b3 command
    ∙ ap (ended false chip) (first_blocking-is chip order refl ∙ find-none (is_blocking chip) order idle)

-- ---- a read of one chip

interrupt-unpolled : (chip : Chip) → interrupt (record chip { polls = false }) ≡ interrupt chip
unfolding request first_selectable pending
interrupt-unpolled chip = grind (arith, nat_tests)

-- a chip that does not ask does not ask after a read
still-quiet : (chip : Chip) → interrupt chip ≡ None → interrupt (chip_after_read chip) ≡ None
unfolding chip_after_read
still-quiet chip quiet = grind (arith, nat_tests, cond, acknowledged_if, cases_Bool, interrupt, interrupt-unpolled)

-- another slave leaves a master alone that has latched the request of the one before, or had none to latch
other-slave : (pair : Pair) (slave : Chip) → settled pair ≡ pair →
    (interrupt pair.slave ≡ None → interrupt slave ≡ None) →
    (settled (record pair { slave = slave })).master ≡ pair.master
other-slave pair slave is quiet = grind (arith, nat_tests)

pub reads_leave : ReadsLeaveTheOther
reads_leave pair port = grind (arith, nat_tests, settled_slave, chip_after_read, other-slave, interrupt, still-quiet)

-- `acknowledged_is_in_service` is proved by these
pub ruleset acknowledged_is_in_service_rules = (nat_tests, settled_slave, with_level_has, interrupt_small)

-- `spurious_leaves_alone` is proved by these
pub ruleset spurious_leaves_alone_rules = (nat_tests, settled_slave)
