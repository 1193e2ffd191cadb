-- How a call from C ends.
use Rattle.std.specs.Prelude.{ℕ, ◌≡◌, ◌≢◌, true, false, Option, Some, None}
use Rattle.board_chipset.specs.Chipset.{Running}
use Rattle.uart_16550.specs.Serial.{Serial}
use Rattle.machine.specs.Machines.{MachineState}
use Rattle.machine_records.specs.FittedReplies.{IsGoneOn}
use Rattle.machine_records.specs.Statuses.{bad_handle, ok}
use Rattle.board_c.specs.declared.handle.Handle.{Handle}

-- there is a machine, and something holds of it, or of its chipset with the serial port
abbrev pub OnMachine : Option MachineState → (MachineState → Type 0) → Type 0
OnMachine None P = ⊥
OnMachine (Some machine) P = P machine

abbrev pub OnBoard : Option MachineState → (Serial Running → Type 0) → Type 0
OnBoard machine P = OnMachine machine (λ machine. P machine.saved.serial)

-- there is one before and after, and something holds of them
abbrev pub OnMachines : Option MachineState → Option MachineState → (MachineState → MachineState → Type 0) → Type 0
OnMachines (Some old) (Some new) P = P old new
OnMachines _ _ P = ⊥

-- and the cards are the same
abbrev pub OnBoth : Option MachineState → Option MachineState → (Serial Running → Serial Running → Type 0) → Type 0
OnBoth old new P = OnMachines old new (IsGoneOn P)

-- the handle is as it was open or closed; where it is closed, the call says so; and else it is done, or refused with this
-- status, and nothing has changed: the machine, nor what was to be filled
pub record IsCall (old new : Handle) (status : ℕ) (Done Refused Unfilled : Type 0) : Type 0 where
  pub kept : new.full ≡ old.full
  pub says_closed : old.full ≡ false → status ≡ bad_handle
  pub not_closed : old.full ≡ true → status ≢ bad_handle
  pub done : status ≡ ok → Done
  pub refused : old.full ≡ true → status ≢ ok → Refused
  pub unchanged : old.full ≡ true → status ≢ ok → new.held ≡ old.held
  pub unfilled : status ≢ ok → Unfilled

-- the same of a call that opens: where the handle is open already, it says so
pub record IsOpening (old new : Handle) (status : ℕ) (Done Refused : Type 0) : Type 0 where
  pub opened : status ≡ ok → new.full ≡ true
  pub done : status ≡ ok → Done
  pub twice : old.full ≡ true → status ≡ bad_handle
  pub held : old.full ≡ true → new.held ≡ old.held
  pub refused : old.full ≡ false → status ≢ ok → Refused
  pub kept : status ≢ ok → new.full ≡ old.full
