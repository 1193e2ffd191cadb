-- Words and bytes of a sector, beside the machine: what a bus master moves.
use Rattle.std.specs.Prelude.{ℕ, ◌+◌, ◌*◌, ◌/◌, ◌%◌, Bool, not, ◌&&◌, nat_lt, slice_set, List}
use Rattle.device_spec.specs.Ata.State.{Medium, sectors_of, is_bad}

-- a sector exists and is not bad
abbrev pub is_readable : Medium → ℕ → Bool
is_readable medium sector = nat_lt sector (sectors_of medium) && not (is_bad medium sector)

-- the sectors after one word was set, its lower byte first
abbrev pub with_word : Medium → (sector word value : ℕ) → Medium
with_word medium sector word value = record medium {
  bytes =
      slice_set (slice_set medium.bytes (512 * sector + 2 * word) (value % 256)) (512 * sector + 2 * word + 1)
      (value / 256 % 256);
}

-- the sectors after the bytes of all of them were set; no mark changes
abbrev pub with_all : Medium → List ℕ → Medium
with_all medium bytes = record medium { bytes = bytes }
