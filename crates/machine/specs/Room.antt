-- Bytes that are put into a room, and a page of memory of which only the front is kept.
use Rattle.std.specs.Prelude.{ℕ, ◌≡◌, ◌+◌, ◌-◌, ◌*◌, ◌≤◌, ◌++◌, List, length, replicate, take, drop}
use Rattle.board_prelude.specs.{most_mib}
use Rattle.byte_fields.specs.Pages.{memory_page}
use Rattle.dram_store.specs.Bank.{bank_size}

-- bytes stand in a room from a place on, and all around them is as before
pub record IsPutAt (at : ℕ) (bytes before after : List ℕ) : Type 0 where
  pub fits : at + length bytes ≤ length before
  pub put : after ≡ take at before ++ (bytes ++ drop (at + length bytes) before)

-- the page of which these bytes are kept, from its first on: the others are 0
abbrev pub page_of : List ℕ → List ℕ
page_of kept = kept ++ replicate (memory_page - length kept) 0

-- not more bytes than a board may have
abbrev pub IsInstalled : List ℕ → Type 0
IsInstalled dram = length dram ≤ most_mib * bank_size
