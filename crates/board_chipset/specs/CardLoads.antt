-- Bytes that are written to a card from outside: the entries that would have written them.
use Rattle.std.specs.Prelude.{ℕ, ◌≡◌, ◌+◌, Bool, true, false, List, [], ◌∷◌, length, slice_index, Option, None}
use Rattle.board_prelude.specs.{Write, One, Card, Denial, Event, Memory, Port, Bus, Entry, Setup, card_at, kept_size}
use Rattle.board_prelude.specs.{is_within}

-- how many bytes are kept of a base of a card. None where the card or the base does not exist, of an outside base, and
-- of an expansion ROM
abbrev pub card_size : Setup → (dev base : ℕ) → ℕ
card_size setup dev base = kept_size (card_at setup dev) base

-- the ports of the 82441FX, 0CF8h to 0CFFh: no write to another is to a register of it
abbrev pub is_bridge_port : (port : ℕ) → Bool
is_bridge_port port = is_within 0xCF8 0xCFF port

-- an event writes one byte, to memory or to a port that is none of the 82441FX
abbrev pub WritesByte : (byte : ℕ) → Event → Type 0
WritesByte byte (Memory access) = (access.kind ≡ Write) × (access.width ≡ One) × (access.value ≡ byte)
WritesByte byte (Port access) =
    (access.write ≡ true) × (access.width ≡ One) × (access.value ≡ byte) × (is_bridge_port access.port ≡ false)
WritesByte byte _ = ⊥

-- an entry is such a write, and its reply says that the byte went to this place in a base of a card
pub record IsCardWrite (dev base off byte : ℕ) (entry : Entry) : Type 0 where
  pub denial : Option Denial
  pub event : WritesByte byte entry.event
  pub reply : entry.reply ≡ Bus None (Card dev base off) denial

-- each entry writes the next byte: the one that has k before it writes byte k
unfoldable pub WriteCardInTurn : (dev base off : ℕ) → (bytes : List ℕ) → List Entry → Type 0
WriteCardInTurn dev base off bytes [] = Unit {0}
WriteCardInTurn dev base off bytes (entry ∷ earlier) =
    IsCardWrite dev base (off + length earlier) (slice_index bytes (length earlier)) entry ×
    WriteCardInTurn dev base off bytes earlier

-- entries, newest first, write all these bytes from an offset in a base on
pub record WriteCard (dev base off : ℕ) (bytes : List ℕ) (entries : List Entry) : Type 0 where
  pub all : length entries ≡ length bytes
  pub each : WriteCardInTurn dev base off bytes entries
