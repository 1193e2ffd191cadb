-- What an open is asked for by records, and what it gives.
use Rattle.std.specs.Prelude.{ℕ, ◌≡◌, ◌⊎◌, List, [], ◌∷◌, Option, Some, None, option_map}
use Rattle.board_spec.specs.Setup.{Setup, IsSetup}
use Rattle.board_chipset.specs.declared.check.SetupFault.{SetupFault}
use Rattle.board_chipset.specs.Chipset.{Running, IsLeftBy}
use Rattle.board_chipset.specs.Setups.{IsSetupFault}
use Rattle.uart_16550.specs.Com1.{com1_at_reset}
use Rattle.uart_16550.specs.Serial.{Serial}
use Rattle.machine_records.specs.declared.card.CardRecord.{CardRecord}
use Rattle.machine_records.specs.Cards.{cards_said}
use Rattle.machine_records.specs.Statuses.{no_memory, bad_cards, setup_status}

-- the disk that these bytes are: none where there are none
abbrev pub disk_of : List ℕ → Option (List ℕ)
disk_of [] = None
disk_of (byte ∷ bytes) = Some (byte ∷ bytes)

-- what an open asks for: nothing where the records say no cards
abbrev pub setup_said : (mib : ℕ) → List CardRecord → (rom disk : List ℕ) → Option Setup
setup_said mib records rom disk =
    option_map (λ cards. record { mib = mib; cards = cards; rom = rom; disk = disk_of disk }) (cards_said records)

-- a board can have this setup, it was opened with it, and nothing was asked of it yet
pub record IsOpenedWith (serial : Serial Running) (setup : Setup) : Type 0 where
  pub fits : IsSetup setup
  pub same : serial.board.setup ≡ setup
  pub power_on : IsLeftBy serial.board []
  pub new_port : serial.com1 ≡ com1_at_reset

-- why no board can have a setup: the records say no cards, or the first field that none can have
abbrev pub IsSetupRefusal : Option Setup → (status : ℕ) → Type 0
IsSetupRefusal None status = status ≡ bad_cards
IsSetupRefusal (Some setup) status = (fault : SetupFault) × IsSetupFault setup fault × (status ≡ setup_status fault)

-- why none is opened: no board can have the setup; or one can, and there was no memory
abbrev pub IsOpenRefusal : Option Setup → (status : ℕ) → Type 0
IsOpenRefusal None status = status ≡ bad_cards
IsOpenRefusal (Some setup) status =
    IsSetupRefusal (Some setup) status ⊎ ((status ≡ no_memory) × IsSetup setup)
