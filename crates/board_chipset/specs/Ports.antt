-- What an access at a port reaches after a history, and what its entry tells.
use Rattle.std.specs.Prelude.{ℕ, ◌≡◌, Bool, List, Option, is_some}
use Rattle.board_prelude.specs.{PortAccess, Target, Denial, Event, Port, Bus, Entry, MapChange, Setup, IsBusAccess}
use Rattle.board_prelude.specs.{control_written, address_written, config_address, config_store, byte_of, Decoded}
use Rattle.board_prelude.specs.{port_target_of}
use Rattle.board_chipset.specs.declared.state.State.{State}
use Rattle.board_chipset.specs.Kept.{IsState}

-- what an access reaches, and what denies it
abbrev pub reached : Setup → List Entry → PortAccess → Decoded
reached setup history access =
    port_target_of setup (byte_of setup history) (config_address history) (is_some setup.disk) access.port access.width

-- a state to which this access can be made, and what it reaches
pub record Reaching (state : State) (access : PortAccess) (target : Target) : Type 0 where
  pub rom : List ℕ
  pub kept : IsState state rom
  pub bus : IsBusAccess access.write access.port access.width access.value
  pub disk : Bool
  pub target_is :
      target
      ≡ (port_target_of kept.setup kept.sound.registers.bytes state.registers.address disk access.port
      access.width).target

-- an entry is this access, which reached this target
pub record IsEntryOf (setup : Setup) (history : List Entry) (access : PortAccess) (target : Target)
    (entry : Entry) : Type 0 where
  pub value : Option ℕ
  pub denial : Option Denial
  pub target_is : target ≡ (reached setup history access).target
  pub event : entry.event ≡ Port access
  pub reply : entry.reply ≡ Bus value target denial

-- an event after a history writes these to reset control and to the configuration address, and makes this store
pub record Writes (setup : Setup) (history : List Entry) (event : Event) (control address : Option ℕ)
    (store : Option MapChange) : Type 0 where
  pub control_is : control_written event ≡ control
  pub address_is : address_written event ≡ address
  pub store_is : config_store setup (config_address history) event ≡ store
