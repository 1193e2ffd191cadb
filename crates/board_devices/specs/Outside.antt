-- What is asked of the devices between two events, and what is written to them from outside the bus.
use Rattle.std.specs.Prelude.{ℕ, ◌≡◌, Bool, true, List, ◌∷◌, is_some}
use Rattle.board_prelude.specs.{PortAccess, One, interrupt, clock_index_port, clock_data_port, Entry, Setup, clock_of}
use Rattle.board_prelude.specs.{pair_of}
use Rattle.board_base.specs.declared.target.Dev.TheVariants.{Clock as ClockChip}
use Rattle.board_devices.specs.Devices.{AreRoutesOf}
use Rattle.board_devices.specs.Events.{ReachesDevice}

-- INT after a history: the master of the pair requests service
abbrev pub is_interrupting : Setup → List Entry → Bool
is_interrupting setup history = is_some (interrupt (pair_of setup history).master)

-- a byte that is written at a port
abbrev pub byte_out : (port byte : ℕ) → PortAccess
byte_out port byte = record { port = port; width = One; write = true; value = byte }

-- An entry writes a byte to a port of the clock, and the routes are these after it.
pub record WritesClock (setup : Setup) (routes : List ℕ) (history : List Entry) (entry : Entry)
    (port byte : ℕ) : Type 0 where
  pub reaches : ReachesDevice history entry ClockChip (byte_out port byte)
  pub routes_are : AreRoutesOf setup (entry ∷ history) routes

-- Three entries write a byte of the clock: the address to port 70h, the byte to port 71h, and the index as it was
-- before to port 70h. The history after them is `later`.
pub record PutsClockByte (setup : Setup) (routes : List ℕ) (history : List Entry) (address byte : ℕ)
    (later : List Entry) : Type 0 where
  pub to_address : Entry
  pub to_byte : Entry
  pub back : Entry
  pub are_last : later ≡ back ∷ to_byte ∷ to_address ∷ history
  pub first : WritesClock setup routes history to_address clock_index_port address
  pub second : WritesClock setup routes (to_address ∷ history) to_byte clock_data_port byte
  pub third : WritesClock setup routes (to_byte ∷ to_address ∷ history) back clock_index_port (clock_of history).index
