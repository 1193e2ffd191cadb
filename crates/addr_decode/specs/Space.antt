-- A function's configuration space of 256 bytes.
use Rattle.std.specs.Prelude.{◌≡◌, ℕ, List, slice_index}

-- the bytes after a reset, the bits that can be written, and the bytes that stand there now
pub record SpaceBytes : Type 0 where
  pub reset : List ℕ
  pub mask : List ℕ
  pub bytes : List ℕ

-- the byte at an offset, its writable bits, and its value after a reset
abbrev pub byte_at : SpaceBytes → ℕ → ℕ
byte_at space off = slice_index space.bytes off

abbrev pub mask_at : SpaceBytes → ℕ → ℕ
mask_at space off = slice_index space.mask off

abbrev pub reset_at : SpaceBytes → ℕ → ℕ
reset_at space off = slice_index space.reset off

-- two states of one space: the same values after a reset, and the same writable bits
pub record SameTable (old new : SpaceBytes) : Type 0 where
  pub reset : new.reset ≡ old.reset
  pub mask : new.mask ≡ old.mask
