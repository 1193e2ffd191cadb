-- A device answers at its ports exactly where the chip selects it: each is proved on a function of `laws`.
use Rattle.std.specs.Prelude.{◌≡◌, ◌↔◌, ℕ, Bool, true}
use Rattle.board_prelude.specs.{Width, One, Dev, Keyboard, Ata, Device, bytes_of, is_port_of, Setup, Bytes}
use Rattle.board_prelude.specs.{port_target_of}
use Rattle.board_base.specs.declared.target.Dev.TheVariants.{Clock}
use Rattle.south_bridge.specs.Piix.{is_keyboard_port, is_clock_port, is_selected}

-- an access of this width reaches the device exactly where the port's device is selected
abbrev pub AnswersAt : Setup → Bytes → (address : ℕ) → (disk : Bool) → Width → Dev → (port : ℕ) → Type 0
AnswersAt setup bytes address disk width dev port =
    ((port_target_of setup bytes address disk port width).target ≡ Device dev) ↔ (is_selected bytes port ≡ true)

abbrev pub KeyboardAnswers : Type 0
KeyboardAnswers =
    (setup : Setup) (bytes : Bytes) (address : ℕ) (disk : Bool) (port : ℕ) →
    is_keyboard_port port ≡ true → AnswersAt setup bytes address disk One Keyboard port

abbrev pub ClockAnswers : Type 0
ClockAnswers =
    (setup : Setup) (bytes : Bytes) (address : ℕ) (disk : Bool) (port : ℕ) →
    is_clock_port port ≡ true → AnswersAt setup bytes address disk One Clock port

-- where a disk is fitted, and a register of it stands at the port
abbrev pub DiskAnswers : Type 0
DiskAnswers =
    (setup : Setup) (bytes : Bytes) (address : ℕ) (width : Width) (port : ℕ) →
    is_port_of Ata port (bytes_of width) ≡ true → AnswersAt setup bytes address true width Ata port
