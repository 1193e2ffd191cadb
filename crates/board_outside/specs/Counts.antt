-- Counts that stand still at the last value of their type.
use Rattle.std.specs.Prelude.{ℕ, ◌+◌, ◌-◌, ◌^◌, min}

-- the last value of a count that a u64 keeps
abbrev pub last_count : ℕ
last_count = 2 ^ 64 - 1

-- the number of faults after one more
abbrev pub next_fault : ℕ → ℕ
next_fault faults = min (faults + 1) last_count
