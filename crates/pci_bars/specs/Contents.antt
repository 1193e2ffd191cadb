-- The contents of the cards' bases: a list of bytes each, found by device and base.
use Rattle.std.specs.Prelude.{◌≡◌, ◌≢◌, ℕ, ◌+◌, ◌-◌, ◌*◌, ◌/◌, ◌%◌, ◌<◌, ◌≤◌, ◌==◌, ◌⊎◌, nat_lt, if◌then◌else◌, List}
use Rattle.std.specs.Prelude.{[], find, get_or, length, slice_index}
use Rattle.board_prelude.specs.{Width, bytes_of, Entry, FittedCard, Setup, card_at, rom_base, kept_size, card_byte}
use Rattle.board_prelude.specs.{expansion_byte}

-- devices 2 to 9 have bases 0 to 5, the expansion ROM as base 6, and the VGA window as base 7
pub record IsBaseNumber (dev base : ℕ) : Type 0 where
  pub first : 2 ≤ dev
  pub last : dev ≤ 9
  pub below : base < 8

-- the number of a base among those of all devices
abbrev pub slot_number : ℕ → ℕ → ℕ
slot_number dev base = (dev - 2) * 8 + base

-- the bytes that are kept of a base. There are none where the base does not exist, of an outside base, and of an
-- expansion ROM
abbrev pub held : List (List ℕ) → (dev base : ℕ) → List ℕ
held contents dev base = get_or contents (slot_number dev base) []

-- a byte of those that are kept, FFh at and past their end
abbrev pub kept_at : List ℕ → (off : ℕ) → ℕ
kept_at kept off = if nat_lt off (length kept) then slice_index kept off else 0xFF

-- a byte of a base. That of an expansion ROM is fixed
abbrev pub held_byte : List (List ℕ) → (dev base off : ℕ) → ℕ
held_byte contents dev base off =
    if base == rom_base then expansion_byte dev off else kept_at (held contents dev base) off

-- the same of a base by its number among those of all devices
abbrev pub slot_size : List FittedCard → (slot : ℕ) → ℕ
slot_size cards slot = kept_size (find (λ card. card.dev == 2 + slot / 8) cards) (slot % 8)

-- an access lies in the bytes that are kept of a base, or none is kept of it
abbrev pub FitsIn : (kept : List ℕ) → (off : ℕ) → Width → Type 0
FitsIn kept off width = (kept ≡ []) ⊎ (off + bytes_of width ≤ length kept)

-- or it lies in an expansion ROM
pub record LiesIn (contents : List (List ℕ)) (dev base off : ℕ) (width : Width) : Type 0 where
  pub number : IsBaseNumber dev base
  pub fits : base ≢ rom_base → FitsIn (held contents dev base) off width

-- of each base of the setup's cards as many bytes are kept as it has
abbrev pub HaveSizes : Setup → (contents : List (List ℕ)) → Type 0
HaveSizes setup contents =
    (dev base : ℕ) → IsBaseNumber dev base → length (held contents dev base) ≡ kept_size (card_at setup dev) base

-- each base of the setup's cards has its size, and holds what the last write in a history left there, or the
-- fixed bytes of an expansion ROM. One of which none are kept gives FFh
pub record IsContentsOf (setup : Setup) (history : List Entry) (contents : List (List ℕ)) : Type 0 where
  pub sizes : HaveSizes setup contents
  pub bytes : (dev base off : ℕ) → IsBaseNumber dev base →
      held_byte contents dev base off ≡ card_byte setup history dev base off
