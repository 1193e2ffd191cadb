-- A step of a machine, over one of its chipset with the serial port.
use Rattle.board_prelude.proofs.{Moment, Time}
use Rattle.std.proofs.Common.{◌≡◌, ◌≢◌, ℕ, Bool, false, List, IfSome, IsSomeAnd, Option, Some, None, refl, ap, subst}
use Rattle.std.proofs.Common.{◌∙◌}
use Rattle.board_chipset.specs.Chipset.{Running}
use Rattle.uart_16550.specs.declared.com1.Happening.{Happening}
use Rattle.uart_16550.specs.declared.com1.Happening.TheVariants.{Happens}
use Rattle.uart_16550.specs.Serial.{Serial}
use Rattle.machine.specs.declared.identity.FittedIdentity.{FittedIdentity}
use Rattle.machine.specs.Machines.{MachineState}
use Rattle.machine_records.specs.declared.event.EventRecord.{EventRecord}
use Rattle.machine_records.specs.declared.reply.ReplyRecord.{ReplyRecord}
use Rattle.machine_records.specs.FittedReplies.{IsMachineStep, fitted_record}
use Rattle.machine_records.specs.Lines.{AreLinesOf}
use Rattle.machine_records.specs.Replies.{with_lines}
use Rattle.machine_records.specs.StepLines.{AreLinesTold, IsPulsed, risen}
use Rattle.machine_records.specs.Statuses.{IsEventRefusal, IsOutcome, ok}
use Rattle.machine_records.specs.Steps.{IsAskedStep, IsStepOutcome}

abbrev state : Serial Running → List FittedIdentity → List (List ℕ) → MachineState
state serial identities roms = record { saved = record { serial = serial; identities = identities }; roms = roms }

-- the lines are told of the step that was asked
pub lines_told : (asked : Option Happening) (old new : Running) (plain said : ReplyRecord) (before : ℕ)
    (is_pulsed : Bool) → AreLinesOf old before → AreLinesOf new said.lines →
    IfSome asked (λ happening. IsPulsed old happening is_pulsed) →
    said ≡ with_lines plain said.lines (risen before said.lines is_pulsed) →
    IfSome asked (λ happening. AreLinesTold old new happening plain said)
lines_told None old new plain said before is_pulsed were are pulsed told = tt
lines_told (Some asked) old new plain said before is_pulsed were are pulsed told = record {
  before = before;
  after = said.lines;
  is_pulsed = is_pulsed;
  were = were;
  are = are;
  pulsed = pulsed;
  told = told;
}

pub fitted_step : (asked : Option Happening) (old new : Serial Running) (identities : List FittedIdentity)
    (roms : List (List ℕ)) (event : EventRecord) (plain said : ReplyRecord) →
    IfSome asked (λ happening.
    AreLinesTold old.board new.board happening (fitted_record identities roms event plain) said) →
    IsSomeAnd asked (IsAskedStep old new plain) →
    IsSomeAnd asked (IsMachineStep (state old identities roms) (state new identities roms) event said)
fitted_step None old new identities roms event plain said lines step = step
fitted_step (Some asked) old new identities roms event plain said lines step = record {
  same = refl;
  same_roms = refl;
  holds = record { plain = plain; step = step; told = lines };
}

-- how a step of a machine ends, by what each of its parts says
module _ (asked : Option Happening) (status : ℕ) (old new : Serial Running) (first second last : Running)
    (shown identities : List FittedIdentity) (roms : List (List ℕ)) (event : EventRecord)
    (before plain fitted said : ReplyRecord) (lines : ℕ) (is_pulsed : Bool) where
  machine_lines : first ≡ old.board → AreLinesOf first lines → second ≡ old.board →
      IfSome asked (λ happening. IsPulsed second happening is_pulsed) → last ≡ new.board →
      AreLinesOf last said.lines → shown ≡ identities → fitted ≡ fitted_record shown roms event plain →
      said ≡ with_lines fitted said.lines (risen lines said.lines is_pulsed) →
      IfSome asked (λ happening.
      AreLinesTold old.board new.board happening (fitted_record identities roms event plain) said)
  machine_lines first_is were second_is pulsed last_is are shown_is fits told =
      lines_told asked old.board new.board (fitted_record identities roms event plain) said lines is_pulsed
      (subst (λ (chipset : Running). AreLinesOf chipset lines) first_is were)
      (subst (λ (chipset : Running). AreLinesOf chipset said.lines) last_is are)
      (subst (λ (chipset : Running). IfSome asked (λ happening. IsPulsed chipset happening is_pulsed)) second_is pulsed)
      (subst (λ (it : ReplyRecord). said ≡ with_lines it said.lines (risen lines said.lines is_pulsed))
      (fits ∙ ap (λ (they : List FittedIdentity). fitted_record they roms event plain) shown_is) told)

  pub machine_outcome : first ≡ old.board → AreLinesOf first lines → second ≡ old.board →
      IfSome asked (λ happening. IsPulsed second happening is_pulsed) → last ≡ new.board → shown ≡ identities →
      IsStepOutcome status asked old new before plain →
      (status ≡ ok → fitted ≡ fitted_record shown roms event plain) → (status ≢ ok → fitted ≡ plain) →
      (status ≡ ok → AreLinesOf last said.lines) →
      (status ≡ ok → said ≡ with_lines fitted said.lines (risen lines said.lines is_pulsed)) →
      (status ≢ ok → said ≡ fitted) →
      IsOutcome status
      (IsSomeAnd asked (IsMachineStep (state old identities roms) (state new identities roms) event said))
      (IsEventRefusal old asked status) ((state new identities roms ≡ state old identities roms) × (said ≡ before))
  machine_outcome first_is were second_is pulsed last_is shown_is outcome fits unfitted are told untold = record {
    done = λ is.
        fitted_step asked old new identities roms event plain said
        (machine_lines first_is were second_is pulsed last_is (are is) shown_is (fits is) (told is))
        (outcome.done is);
    refused = outcome.refused;
    unchanged = λ none.
        let kept = outcome.unchanged none in
        (ap (λ (serial : Serial Running). state serial identities roms) kept.0, untold none ∙ unfitted none ∙ kept.1);
    not_closed = outcome.not_closed;
  }

-- a second is no pulse
pub second_told : (old new : Running) (next : Moment) (plain said : ReplyRecord) (before : ℕ) → AreLinesOf old before →
    AreLinesOf new said.lines → said ≡ with_lines plain said.lines (risen before said.lines false) →
    AreLinesTold old new (Happens (Time next)) plain said
second_told old new next plain said before were are told = record {
  before = before;
  after = said.lines;
  is_pulsed = false;
  were = were;
  are = are;
  pulsed = record { held = refl; left = λ history left. refl };
  told = told;
}
