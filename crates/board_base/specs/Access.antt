-- How wide an access is, in bytes, and what its width can hold.
use Rattle.std.specs.Prelude.{ℕ, ◌^◌, ◌-◌}
use Rattle.board_base.specs.declared.access.Width.{Width}
use Rattle.board_base.specs.declared.access.Width.TheVariants.{One, Two, Four}

-- the number of bytes that an access of this width moves
abbrev pub bytes_of : Width → ℕ
bytes_of One = 1
bytes_of Two = 2
bytes_of Four = 4

-- the largest value that fits this width: all of its bits are ones
abbrev pub largest_of : Width → ℕ
largest_of w = 256 ^ bytes_of w - 1
