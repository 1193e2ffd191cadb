-- The pair: levels that are given again.
use Rattle.std.proofs.Common.{◌≡◌, ℕ, Bool, true, false, cond, eqb, ◌||◌, sym, ap, ◌∙◌, inl, inr, is_some, arith}
use Rattle.std.proofs.lemmas.Bool.{cases_Bool}
use Rattle.device_spec.specs.Levels.{Levels, has, levels_where, with_level}
use Rattle.device_spec.specs.Pic.{Chip, interrupt, chip_after_inputs}
use Rattle.device_spec.specs.Pair.{Pair, settled}
use Rattle.device_spec.specs.PicLaws.{SameLevelsAgain}
use Rattle.device_spec.proofs.Levels.{levels_where-same, has-levels_where}
use Rattle.std.proofs.lemmas.Bool.Decides.{nat_tests}

-- ---- the same levels again

set-again : (latches : Levels) (two : ℕ) → with_level (with_level latches two) two ≡ with_level latches two
set-again latches two =
    levels_where-same _ _ (λ level small. rw (has-levels_where (λ l. eqb l two || has latches l) level small)
    (grind arith))

-- a chip, whatever its latches are, after inputs that it has already
had-again : (chip : Chip) (test : ℕ → Bool) (inputs triggers : Levels) →
    let now = record chip { latches = levels_where test; inputs = inputs; triggers = triggers } in
    chip_after_inputs now inputs triggers ≡ now
had-again chip test inputs triggers = grind (arith, nat_tests, levels_where-same, has-levels_where)

pub inputs-again : (chip : Chip) (inputs triggers : Levels) →
    chip_after_inputs (chip_after_inputs chip inputs triggers) inputs triggers ≡ chip_after_inputs chip inputs triggers
inputs-again chip inputs triggers = had-again chip _ inputs triggers

-- a pair whose slave asks, with its request latched at the master
abbrev pub latched : Pair → Pair
latched pair = record pair { master = record pair.master { latches = with_level pair.master.latches 2 } }

pub settled-asks : (pair : Pair) → is_some (interrupt pair.slave) ≡ true → settled pair ≡ latched pair
settled-asks pair asks = ap (λ b. cond b (latched pair) pair) asks

pub settled-quiet : (pair : Pair) → is_some (interrupt pair.slave) ≡ false → settled pair ≡ pair
settled-quiet pair quiet = ap (λ b. cond b (latched pair) pair) quiet

-- the two chips after new inputs
abbrev given : Pair → Levels → Levels → Levels → Levels → Pair
given pair low low_triggers high high_triggers = record {
  master = chip_after_inputs pair.master low low_triggers;
  slave = chip_after_inputs pair.slave high high_triggers;
}

given-again : (pair : Pair) (low low_triggers high high_triggers : Levels) →
    let now = given pair low low_triggers high high_triggers in
    settled (given (settled now) low low_triggers high high_triggers) ≡ settled now
given-again pair low low_triggers high high_triggers =
    let now = given pair low low_triggers high high_triggers in
    let same_slave = inputs-again pair.slave high high_triggers in
    elim (cases_Bool (is_some (interrupt now.slave))) [
      | inl asks ↦
          let is = settled-asks now asks in
          let same_master = had-again pair.master (λ l. eqb l 2 || has now.master.latches l) low low_triggers in
          let again : given (latched now) low low_triggers high high_triggers ≡ latched now = cc in
          let once : latched (latched now) ≡ latched now =
          ap (λ l. record now { master = record now.master { latches = l } }) (set-again now.master.latches 2) in
          ap (λ p. settled (given p low low_triggers high high_triggers)) is
          ∙ (ap settled again ∙ (settled-asks (latched now) asks ∙ (once ∙ sym is)))
      | inr quiet ↦
          let is = settled-quiet now quiet in
          let same_master = inputs-again pair.master low low_triggers in
          let again : given now low low_triggers high high_triggers ≡ now = cc in
          ap (λ p. settled (given p low low_triggers high high_triggers)) is ∙ ap settled again
    ]

pub same-levels : SameLevelsAgain
same-levels pair levels elcr = given-again pair _ _ _ _
