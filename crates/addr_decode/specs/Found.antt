-- What the decode of a port access finds, and which function has a register.
use Rattle.std.specs.Prelude.{◌≡◌, ◌≤◌, ◌==◌, List, Some, None}
use Rattle.board_prelude.specs.{position, Reg, Config, Decoded, device, nobody}
use Rattle.board_base.specs.declared.target.Target.TheVariants.{Card as CardTarget}
use Rattle.pci_bars.specs.Cards.{CardBytes}
use Rattle.addr_decode.specs.declared.found.Function.{Function}
use Rattle.addr_decode.specs.declared.found.Function.TheVariants.{HostBridge, IsaBridge, Ide, Card as CardAt}
use Rattle.addr_decode.specs.declared.found.Found.{Found}
use Rattle.addr_decode.specs.declared.found.Found.TheVariants.{Device, Register, Card, Nobody}

-- a register that answers
abbrev pub register_answers : Reg → Decoded
register_answers reg = record { target = Config reg; denial = None }

-- what was found, as a target and a denial
abbrev pub decoded_as : Found → Decoded
decoded_as (Device dev) = device dev
decoded_as (Register register) = register_answers register.reg
decoded_as (Card dev base offset) = record { target = CardTarget dev base offset; denial = None }
decoded_as (Nobody denial) = nobody denial

-- the host bridge has the registers of 00.0, the 82371SB those of 01.0 and 01.1, and the card at a place among the
-- cards those of function 0 of its device
abbrev pub HasRegister : List CardBytes → Function → Reg → Type 0
HasRegister cards HostBridge reg = (reg.dev ≡ 0) × (reg.fun ≡ 0)
HasRegister cards IsaBridge reg = (reg.dev ≡ 1) × (reg.fun ≡ 0)
HasRegister cards Ide reg = (reg.dev ≡ 1) × (reg.fun ≡ 1)
HasRegister cards (CardAt place) reg =
    (2 ≤ reg.dev) × (reg.fun ≡ 0) × (position (λ card. card.card.dev == reg.dev) cards ≡ Some place)

-- a register that was found is one of its function
abbrev pub IsFoundIn : List CardBytes → Found → Type 0
IsFoundIn cards (Register register) = HasRegister cards register.function register.reg
IsFoundIn cards _ = Unit {0}
