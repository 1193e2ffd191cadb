-- How much a board may have, how much a script may ask of it, and how much a board keeps.
use Rattle.std.specs.Prelude.{ℕ}

-- the most statements, phases and pulses of a script
abbrev pub most_statements : ℕ
most_statements = 250_000

abbrev pub most_phases : ℕ
most_phases = 1_000

abbrev pub most_pulses : ℕ
most_pulses = 100_000_000

-- the most memory of a board, in MiB; a script may ask for less
abbrev pub most_mib : ℕ
most_mib = 512

-- the most bytes behind the memory bases of all cards
abbrev pub most_card_memory : ℕ
most_card_memory = 0x400_0000

-- a history has fewer entries than this, and so fewer map writes
abbrev pub entry_limit : ℕ
entry_limit = 4_000_000
