-- Many pulses of the timer leave the pair as two sets of levels do.
use Rattle.std.proofs.lemmas.Grind.{common_steps}
use Rattle.std.proofs.lemmas.Bool.{cases_Bool, or_parts, true≢false}
use Rattle.std.proofs.lemmas.Bool.Decides.{nat_tests}
use Rattle.board_spec.proofs.DeviceProofs.{elcr-same, timer-pulsed, triggers-pulsed, levels-pulsed, pair_has_seen}
use Rattle.board_spec.proofs.DeviceProofs.{pair-pulsed}
use Rattle.device_spec.proofs.Levels.{levels_where-same, has-levels_where}
use Rattle.device_spec.proofs.PairLaws.{same-levels, inputs-again, settled-asks, settled-quiet, latched}
use Rattle.board_prelude.proofs.{Levels, has, levels_where, with_level, levels_of_byte, Chip, interrupt, latches_after}
use Rattle.board_prelude.proofs.{chip_after_inputs, Pair, settled, master_inputs, pair_at_reset, levels_at_power_on}
use Rattle.board_prelude.proofs.{pair_after_lines, PitState, out_of, pulses, rises, Event, Pulses, Entry, Setup}
use Rattle.board_prelude.proofs.{timer_of, routes_of, levels_with, levels_of, elcr_of, pair_pulsed, pair_reset_or_after}
use Rattle.board_prelude.proofs.{pair_stepped, pair_of}
use Rattle.std.proofs.Common.{◌≡◌, ℕ, zero, suc, ◌+◌, ◌/◌, ◌%◌, ◌<◌, nat_lt, ◌&&◌, ◌||◌, not, Bool, true, false, cond}
use Rattle.std.proofs.Common.{List, [], ◌∷◌, is_some, take, drop, inl, inr, refl, ap, sym, subst, ◌∙◌, arith, slice_set}
use Rattle.board_devices.specs.Devices.{DevicesValue, AreAfter, AreDevicesOf}
use Rattle.board_devices.specs.Events.{Asks}
use Rattle.board_devices.specs.PulsedPair.{lines_at, pair_after_run}
use Rattle.board_devices.proofs.ChipSteps.{Keeps, same_chips, event_keeps}
use Rattle.board_devices.proofs.DeviceLemmas.{with_pair, routes_stand, others_asked, levels_pulsed}

-- ---- the latch of line 0 at the master

-- a latch that is held although its input is 0
abbrev is_stale : Chip → Bool
is_stale chip = has chip.latches 0 && not (has chip.inputs 0)

-- no such latch is held at line 0
pub record IsFresh (pair : Pair) : Type 0 where
  pub fresh : is_stale pair.master ≡ false

settled_fresh : (pair : Pair) → IsFresh pair → IsFresh (settled pair)
unfolding levels_where
settled_fresh pair is = grind (arith, nat_tests, common_steps, settled-asks, settled-quiet)

-- ---- what an event leaves fresh

pub lines_fresh : (pair : Pair) (levels : List Bool) (elcr : ℕ) → IsFresh pair →
    IsFresh (pair_after_lines pair levels elcr)
unfolding levels_where
lines_fresh pair levels elcr is =
    let low = master_inputs (take 8 levels) in
    let triggers = master_inputs (levels_of_byte (elcr % 256)) in
    settled_fresh
    (record {
      master = chip_after_inputs pair.master low triggers;
      slave = chip_after_inputs pair.slave (drop 8 levels) (levels_of_byte (elcr / 256));
    })
    (record { fresh = (grind (arith, nat_tests, is.fresh)) })

-- nor a step of the chips themselves, and what follows it
steps_fresh : (old new : Pair) → Keeps old.master new.master → Keeps old.slave new.slave → IsFresh old →
    IsFresh (settled new)
steps_fresh old new master slave is = settled_fresh new (record { fresh = grind (arith, nat_tests, master, is) })

reset_fresh : (levels : List Bool) → IsFresh (pair_at_reset levels)
unfolding levels_where
reset_fresh levels = record { fresh = refl }

-- ---- line 0 rises and falls

-- a level of the latches after its input
abbrev after_at : Bool → Bool → Bool → Bool
after_at latch before now = (latch || (now && not before)) && not (before && not now)

module _ (rest : List Bool) (latches inputs : Levels) (fresh : (has latches 0 && not (has inputs 0)) ≡ false) where
  abbrev high_at : Levels
  high_at = master_inputs (take 8 (true ∷ rest))

  abbrev low_at : Levels
  low_at = master_inputs (take 8 (false ∷ rest))

  base : (l : ℕ) → l < 8 → after_at (after_at (has latches l) (has inputs l) (has high_at l)) (has high_at l)
      (has low_at l) ≡ after_at (has latches l) (has inputs l) (has low_at l)
  base zero h = grind (arith, nat_tests, common_steps, has-levels_where, has, fresh)
  base (suc l) h = grind (arith, nat_tests, common_steps, has-levels_where, has)

  forgets : latches_after (latches_after latches inputs high_at) high_at low_at ≡ latches_after latches inputs low_at
  forgets = levels_where-same _ _
      (λ l h. rw (has-levels_where (λ k. after_at (has latches k) (has inputs k) (has high_at k)) l h) (base l h))

  forgets_latched : with_level (latches_after (with_level (latches_after latches inputs high_at) 2) high_at low_at) 2
      ≡ with_level (latches_after latches inputs low_at) 2
  forgets_latched = levels_where-same _ _ (λ l h. grind (arith, nat_tests, has-levels_where, base l h))

-- ---- the pair forgets a rise and a fall

abbrev given : Pair → Levels → Levels → Levels → Levels → Pair
given pair low triggers high high_triggers = record {
  master = chip_after_inputs pair.master low triggers;
  slave = chip_after_inputs pair.slave high high_triggers;
}

forget_given : (pair : Pair) (rest : List Bool) (triggers high high_triggers : Levels) → IsFresh pair →
    settled (given (settled (given pair (master_inputs (take 8 (true ∷ rest))) triggers high high_triggers))
    (master_inputs (take 8 (false ∷ rest))) triggers high high_triggers)
    ≡ settled (given pair (master_inputs (take 8 (false ∷ rest))) triggers high high_triggers)
forget_given pair rest triggers high high_triggers is =
    let up = given pair (master_inputs (take 8 (true ∷ rest))) triggers high high_triggers in
    let down = given pair (master_inputs (take 8 (false ∷ rest))) triggers high high_triggers in
    let low = master_inputs (take 8 (false ∷ rest)) in
    let same_slave = inputs-again pair.slave high high_triggers in
    elim (cases_Bool (is_some (interrupt up.slave))) [
      | inr quiet ↦
          ap (λ (p : Pair). settled (given p low triggers high high_triggers)) (settled-quiet up quiet)
          ∙ ap settled (same_chips _ _ _ _
          (ap (λ (l : Levels). record pair.master { latches = l; inputs = low; triggers = triggers })
          (forgets rest pair.master.latches pair.master.inputs is.fresh))
          same_slave)
      | inl asks ↦
          let again = given (latched up) low triggers high high_triggers in
          let slave_is : again.slave ≡ up.slave = same_slave in
          let asks_again : is_some (interrupt again.slave) ≡ true = ap (λ (c : Chip). is_some (interrupt c)) slave_is
          ∙ asks in
          ap (λ (p : Pair). settled (given p low triggers high high_triggers)) (settled-asks up asks)
          ∙ (settled-asks again asks_again
          ∙ (same_chips _ _ _ _
          (ap (λ (l : Levels). record pair.master { latches = l; inputs = low; triggers = triggers })
          (forgets_latched rest pair.master.latches pair.master.inputs is.fresh))
          same_slave
          ∙ sym (settled-asks down asks)))
    ]

forget : (levels : List Bool) (elcr : ℕ) (pair : Pair) → IsFresh pair →
    lines_at levels elcr false (lines_at levels elcr true pair) ≡ lines_at levels elcr false pair
forget [] elcr pair is = same-levels pair [] elcr
forget (x ∷ rest) elcr pair is = forget_given pair rest _ _ _ is

-- ---- a run of pulses

low_again : (levels : List Bool) (elcr : ℕ) (level : Bool) (pair : Pair) →
    lines_at levels elcr level (lines_at levels elcr level pair) ≡ lines_at levels elcr level pair
low_again levels elcr level pair = same-levels pair (slice_set levels 0 level) elcr

next : (levels : List Bool) (elcr : ℕ) (pair : Pair) (rose was now : Bool) → IsFresh pair →
    (rose ≡ false → was ≡ true → lines_at levels elcr true pair ≡ pair) →
    lines_at levels elcr now (pair_after_run levels elcr rose was pair) ≡ pair_after_run levels elcr
    (rose || (now && not was)) now pair
next levels elcr pair false false false is high = low_again levels elcr false pair
next levels elcr pair false false true is high = refl
next levels elcr pair false true false is high = ap (lines_at levels elcr false) (high refl refl)
next levels elcr pair false true true is high = low_again levels elcr true pair
next levels elcr pair true false false is high = low_again levels elcr false pair
next levels elcr pair true false true is high = refl
next levels elcr pair true true false is high =
    forget levels elcr (lines_at levels elcr false pair) (lines_fresh pair (slice_set levels 0 false) elcr is)
    ∙ low_again levels elcr false pair
next levels elcr pair true true true is high = low_again levels elcr true (lines_at levels elcr false pair)

more_rises : (n : ℕ) (b : Bool) → nat_lt 0 (n + cond b 1 0) ≡ (nat_lt 0 n || b)
more_rises n b = grind (arith, nat_tests)

-- where OUT 0 did not rise and is 1, it was 1 from the start
was_high : (timer : PitState) (n : ℕ) → nat_lt 0 (rises n timer) ≡ false → out_of 0 (pulses n timer) ≡ true →
    out_of 0 timer ≡ true
unfolding rises pulses out_of
was_high timer zero none high = high
was_high timer (suc k) none high =
    let parts = or_parts (nat_lt 0 (rises k timer)) _ (sym (more_rises (rises k timer) _) ∙ none) in
    was_high timer k parts.0 (elim (cases_Bool (pulses k timer).counter0.out) [
      | inl before ↦ before
      | inr low ↦ absurd (true≢false (sym (rw (high, low) refl) ∙ parts.1))
    ])

module _ (setup : Setup) (history : List Entry) where
  abbrev timer : PitState
  timer = timer_of history

  abbrev lines : List Bool
  lines = levels_with setup history timer

  pub pulsed : (n : ℕ) → IsFresh (pair_of setup history) → lines_at lines (elcr_of history) (out_of 0 timer)
      (pair_of setup history) ≡ pair_of setup history →
      pair_pulsed setup history n (pair_of setup history) ≡ pair_after_run lines (elcr_of history)
      (nat_lt 0 (rises n timer)) (out_of 0 (pulses n timer)) (pair_of setup history)
  unfolding pair_pulsed rises pulses out_of
  pulsed zero is seen = sym seen
  pulsed (suc k) is seen =
      let p = pair_of setup history in
      ap (λ (l : List Bool). pair_after_lines (pair_pulsed setup history k p) l (elcr_of history))
      (levels_pulsed setup history timer (pulses (suc k) timer))
      ∙ (ap (lines_at lines (elcr_of history) (out_of 0 (pulses (suc k) timer))) (pulsed k is seen)
      ∙ (next lines (elcr_of history) p (nat_lt 0 (rises k timer)) (out_of 0 (pulses k timer))
      (out_of 0 (pulses (suc k) timer)) is
      (λ none high. subst (λ (level : Bool). lines_at lines (elcr_of history) level p ≡ p)
      (was_high timer k none high) seen)
      ∙ ap (λ (rose : Bool). pair_after_run lines (elcr_of history) rose (out_of 0 (pulses (suc k) timer)) p)
      (sym (more_rises (rises k timer) _))))

-- ---- no stale latch, ever

pulsed_fresh : (setup : Setup) (history : List Entry) (n : ℕ) (pair : Pair) → IsFresh pair →
    IsFresh (pair_pulsed setup history n pair)
unfolding pair_pulsed
pulsed_fresh setup history zero pair is = is
pulsed_fresh setup history (suc k) pair is =
    lines_fresh (pair_pulsed setup history k pair) (levels_with setup history (pulses (suc k) (timer_of history)))
    (elcr_of history) (pulsed_fresh setup history k pair is)

stepped_fresh : (setup : Setup) (entry : Entry) (before : List Entry) (event : Event) (pair : Pair) → IsFresh pair →
    IsFresh (pair_stepped setup entry before event pair)
stepped_fresh setup entry before (Pulses count) pair is = pulsed_fresh setup before count pair is
stepped_fresh setup entry before _ pair is =
    let reset = reset_fresh (levels_of setup (entry ∷ before)) in
    let after = event_keeps IsFresh steps_fresh entry.event entry.reply pair is in
    lines_fresh (pair_reset_or_after setup entry before pair) (levels_of setup (entry ∷ before))
    (elcr_of (entry ∷ before)) (grind (arith, nat_tests, reset, after))

pub always_fresh : (setup : Setup) (history : List Entry) → IsFresh (pair_of setup history)
unfolding pair_of
always_fresh setup [] = reset_fresh levels_at_power_on
always_fresh setup (entry ∷ before) = stepped_fresh setup entry before entry.event (pair_of setup before)
    (always_fresh setup before)

-- ---- the devices

-- line 0 is given at a level of its own, whatever the lines have there
run_again : (levels : List Bool) (elcr : ℕ) (x rose out : Bool) (pair : Pair) →
    pair_after_run (slice_set levels 0 x) elcr rose out pair ≡ pair_after_run levels elcr rose out pair
run_again [] elcr x rose out pair = refl
run_again (y ∷ rest) elcr x rose out pair = refl

same_run : (levels lines : List Bool) (elcr bits n m : ℕ) (out level : Bool) (pair same : Pair) → levels ≡ lines →
    elcr ≡ bits → n ≡ m → out ≡ level → pair ≡ same →
    pair_after_run levels elcr (nat_lt 0 n) out pair ≡ pair_after_run lines bits (nat_lt 0 m) level same
same_run levels lines elcr bits n m out level pair same a b c d e = rw (a, b, c, d, e) refl

-- no route moves
pub routes_pulsed : (setup : Setup) {history : List Entry} {entry : Entry} {count : ℕ} →
    Asks history entry (Pulses count) → routes_of setup (entry ∷ history) ≡ routes_of setup history
routes_pulsed setup {history} {entry} asks = routes_stand setup history entry asks.soft (rw asks.event_is refl)

-- `run` are the devices whose timer alone ran
module _ {setup : Setup} {history : List Entry} {entry : Entry} {old run : DevicesValue} {count : ℕ}
    (are : AreDevicesOf setup history old) (asks : Asks history entry (Pulses count))
    (is : run ≡ record old { timer = pulses count old.timer }) where
  abbrev stood : List Bool
  stood = levels_of setup history

  abbrev before : PitState
  before = timer_of history

  abbrev after : PitState
  after = pulses count (timer_of history)

  abbrev saw : Pair
  saw = pair_of setup history

  pair_is : run.pair ≡ saw
  pair_is = ap (λ (d : DevicesValue). d.pair) is ∙ are.pair

  -- the lines as the pair saw them
  seen : lines_at stood (elcr_of history) (out_of 0 before) saw ≡ saw
  seen =
      ap (λ (l : List Bool). pair_after_lines saw l (elcr_of history)) (sym (levels_pulsed setup history before before))
      ∙ pair_has_seen same-levels setup history

  ran : pair_pulsed setup history count saw ≡ pair_after_run stood (elcr_of history) (nat_lt 0 (rises count before))
      (out_of 0 after) saw
  ran = pulsed setup history count (always_fresh setup history) seen

  -- all but the pair
  pub after_run : AreAfter setup (entry ∷ history) run
  after_run = rw is (others_asked asks old tt are.others)

  whole : (devices : DevicesValue) → devices ≡ record run { pair = devices.pair } →
      devices.pair ≡ pair_pulsed setup history count saw →
      AreDevicesOf setup (entry ∷ history) devices
  whole devices others pair = grind (arith, nat_tests, common_steps, with_pair, after_run, pair-pulsed)

  -- the lines then reach the pair
  pub gave : {devices : DevicesValue} {rose : ℕ} {out : Bool} → rose ≡ rises count old.timer →
      out ≡ out_of 0 (pulses count old.timer) →
      devices ≡ record run { pair = devices.pair } →
      devices.pair ≡ pair_after_run (levels_of setup (entry ∷ history)) (elcr_of (entry ∷ history))
      (nat_lt 0 rose) out run.pair →
      AreDevicesOf setup (entry ∷ history) devices
  gave {devices} {rose} {out} rose_is out_is others lined =
      let lines : levels_of setup (entry ∷ history) ≡ slice_set stood 0 (out_of 0 after) =
      ap (λ (t : PitState). levels_with setup (entry ∷ history) t) (timer-pulsed history entry count asks.event_is)
      ∙ (levels-pulsed setup history entry count after asks.event_is
      ∙ levels_pulsed setup history before after) in
      let bits : elcr_of (entry ∷ history) ≡ elcr_of history =
      elcr-same (entry ∷ history) history (triggers-pulsed history entry count asks.event_is) in
      whole devices others
      (lined
      ∙ (same_run _ _ _ _ rose (rises count before) out (out_of 0 after) run.pair saw lines bits
      (rose_is ∙ ap (λ (t : PitState). rises count t) are.others.timer)
      (out_is ∙ ap (λ (t : PitState). out_of 0 (pulses count t)) are.others.timer)
      pair_is
      ∙ (run_again stood (elcr_of history) (out_of 0 after) (nat_lt 0 (rises count before)) (out_of 0 after) saw
      ∙ sym ran)))

  -- and where line 0 did not move they need not
  pub rested : rises count old.timer ≡ 0 → out_of 0 (pulses count old.timer) ≡ out_of 0 old.timer →
      AreDevicesOf setup (entry ∷ history) run
  rested none same =
      whole run refl
      (pair_is
      ∙ sym (ran
      ∙ (same_run stood stood (elcr_of history) (elcr_of history) (rises count before) 0 (out_of 0 after)
      (out_of 0 before) saw saw refl refl
      (sym (ap (λ (t : PitState). rises count t) are.others.timer) ∙ none)
      (sym (ap (λ (t : PitState). out_of 0 (pulses count t)) are.others.timer)
      ∙ (same ∙ ap (λ (t : PitState). out_of 0 t) are.others.timer))
      refl
      ∙ seen)))
