-- The record of a reply where cards have identities: that of the chipset's reply, with their bytes in the place of the
-- fixed ones.
use Rattle.std.specs.Prelude.{ℕ, ◌≡◌, ◌%◌, ◌^◌, ◌==◌, ◌&&◌, nat_lt, Bool, if◌then◌else◌, List, Option, Some, None}
use Rattle.board_prelude.specs.{Width}
use Rattle.board_chipset.specs.Chipset.{Running}
use Rattle.uart_16550.specs.declared.com1.Happening.{Happening}
use Rattle.uart_16550.specs.Serial.{Serial}
use Rattle.machine.specs.declared.identity.Identity.{Identity}
use Rattle.machine.specs.declared.identity.FittedIdentity.{FittedIdentity}
use Rattle.machine.specs.IdentityBytes.{identity_at, with_identity}
use Rattle.machine.specs.Machines.{MachineState}
use Rattle.machine_records.specs.declared.event.EventRecord.{EventRecord}
use Rattle.machine_records.specs.declared.reply.ReplyRecord.{ReplyRecord}
use Rattle.machine_records.specs.Numbers.{bus_reply, config_target}
use Rattle.machine_records.specs.Events.{width_said}
use Rattle.machine_records.specs.RomReplies.{with_roms}
use Rattle.machine_records.specs.StepLines.{AreLinesTold}
use Rattle.machine_records.specs.Steps.{IsAskedStep}

-- a reply to a read of configuration data
abbrev pub is_config_read : ReplyRecord → Bool
is_config_read said =
    (said.form == bus_reply) && (said.has_value == 1) && (said.part0.target == config_target)
    && nat_lt said.part0.offset 256

-- which, of as many bytes as the width has, were read from a register of a card with this identity on
abbrev pub identified_by : Option Identity → Option Width → ReplyRecord → ReplyRecord
identified_by None width said = said
identified_by (Some identity) None said = said
identified_by (Some identity) (Some width) said =
    record said { value = with_identity (Some identity) said.part0.offset width (said.value % 2 ^ 32) }

abbrev pub identified_record : List FittedIdentity → EventRecord → ReplyRecord → ReplyRecord
identified_record identities event said =
    identified_by (if is_config_read said then identity_at identities said.part0.unit else None)
    (width_said event.bytes) said

-- the same with the bytes that expansion ROMs were given
abbrev pub fitted_record : List FittedIdentity → (roms : List (List ℕ)) → EventRecord → ReplyRecord → ReplyRecord
fitted_record identities roms event said = with_roms roms event (identified_record identities event said)

-- a step of the chipset with its serial port, and the record of its reply with these bytes and the interrupt lines
pub record IsFittedStep (identities : List FittedIdentity) (roms : List (List ℕ)) (old new : Serial Running)
    (event : EventRecord) (said : ReplyRecord) (asked : Happening) : Type 0 where
  pub plain : ReplyRecord
  pub step : IsAskedStep old new plain asked
  pub told : AreLinesTold old.board new.board asked (fitted_record identities roms event plain) said

-- something holds of the chipset with its serial port before and after, and the cards are the same
pub record IsGoneOn (P : Serial Running → Serial Running → Type 0) (old new : MachineState) : Type 0 where
  pub same : new.saved.identities ≡ old.saved.identities
  pub same_roms : new.roms ≡ old.roms
  pub holds : P old.saved.serial new.saved.serial

-- a step of a machine: what a guest writes to the address of an expansion ROM is lost
abbrev pub IsMachineStep : (old new : MachineState) → EventRecord → ReplyRecord → Happening → Type 0
IsMachineStep old new event said asked =
    IsGoneOn (λ o n. IsFittedStep old.saved.identities old.roms o n event said asked) old new
