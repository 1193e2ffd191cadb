-- The bytes of the cards' identities in the place of the fixed ones.
use Rattle.std.specs.Prelude.{ℕ, ◌+◌, ◌==◌, List, Option, Some, None, find, option_map}
use Rattle.board_prelude.specs.{Width, byte, wide}
use Rattle.machine.specs.declared.identity.Identity.{Identity}
use Rattle.machine.specs.declared.identity.FittedIdentity.{FittedIdentity}
use Rattle.machine.specs.Header.{identity_byte}

-- the identity of the card at a device number, where it has one
abbrev pub identity_at : List FittedIdentity → (dev : ℕ) → Option Identity
identity_at identities dev = option_map (λ card. card.identity) (find (λ card. card.dev == dev) identities)

-- a value read from an offset on, with the bytes of an identity
unfoldable pub with_identity : Option Identity → (off : ℕ) → Width → (value : ℕ) → ℕ
with_identity None off width value = value
with_identity (Some identity) off width value =
    wide (λ place. identity_byte identity (off + place) (byte value place)) 0 width
