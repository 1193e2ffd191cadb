-- How many entries each processor has.
use Rattle.std.specs.Prelude.{ℕ, ◌≡◌, ◌<◌, List, length, slice_index}
use Rattle.board_prelude.specs.{Entry, entries_by}
use Rattle.log_check.specs.declared.numbers.Numbers.{Numbers}

-- the numbers are those of the processors' last entries in a history
abbrev pub AreNumbersOf : Numbers → List Entry → Type 0
AreNumbersOf numbers history =
    (actor : ℕ) → actor < 256 → slice_index numbers.last actor ≡ length (entries_by actor history)
