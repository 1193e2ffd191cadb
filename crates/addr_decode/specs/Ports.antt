-- What the code gives for a port, and what becomes of what the board's own devices say.
use Rattle.std.specs.Prelude.{ℕ, ◌≡◌, ◌↔◌, Option, IsSome}
use Rattle.board_prelude.specs.{Target, Abort, Denial, Setup, Bytes, Decoded, device, unselected, other_port}
use Rattle.addr_decode.specs.declared.onboard.Onboard.{Onboard}
use Rattle.addr_decode.specs.declared.onboard.Onboard.TheVariants.{Answers, Denied, Absent}

-- a target and a denial, as the code gives them
abbrev pub as_decoded : Target × Option Denial → Decoded
as_decoded answer = record { target = answer.0; denial = answer.1 }

-- an access is denied exactly where nobody answers it
abbrev pub IsDenied : Target × Option Denial → Type 0
IsDenied answer = IsSome answer.1 ↔ (answer.0 ≡ Abort)

-- what becomes of an access of which the board's own devices say this
abbrev pub after_onboard : Setup → Bytes → ℕ → Onboard → Decoded
after_onboard setup bytes port (Answers dev) = device dev
after_onboard setup bytes port (Denied denial) = unselected setup bytes port denial
after_onboard setup bytes port Absent = other_port setup bytes port
