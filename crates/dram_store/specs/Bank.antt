-- A bank is the list of its bytes, which are a mebibyte in pages of 64 KiB.
use Rattle.std.specs.Prelude.{ℕ, ◌≡◌, ◌≤◌, ◌+◌, ◌-◌, ◌*◌, ◌/◌, ◌%◌, ◌&&◌, nat_le, nat_lt, if◌then◌else◌, List, ◌++◌}
use Rattle.std.specs.Prelude.{length, replicate, slice_index}
use Rattle.byte_fields.specs.Pages.{memory_page}

abbrev pub bank_size : ℕ
bank_size = 0x10_0000

abbrev pub page_size : ℕ
page_size = 0x1_0000

abbrev pub IsBank : List ℕ → Type 0
IsBank bank = length bank ≡ bank_size

-- all bytes are 0
abbrev pub IsZero : List ℕ → Type 0
IsZero bank = (at : ℕ) → slice_index bank at ≡ 0

-- the bank of which these bytes are kept, from place 0 on: the others are 0
abbrev pub bank_of : List ℕ → List ℕ
bank_of kept = kept ++ replicate (bank_size - length kept) 0

-- so many bytes of a bank are kept, in whole pages of memory, where there is room for all
pub record IsKept (kept capacity : ℕ) : Type 0 where
  pub pages : kept % memory_page ≡ 0
  pub within : kept ≤ bank_size
  pub room : bank_size ≤ capacity

-- where the page of a place ends, and the next begins
abbrev pub page_end : ℕ → ℕ
page_end at = (at / page_size + 1) * page_size

-- so many bytes were put into a list from a place on: each is byte k of what was put, all others are as before
abbrev pub IsPut : (old : List ℕ) → (from count : ℕ) → (put : ℕ → ℕ) → (new : List ℕ) → Type 0
IsPut old from count put new =
    (at : ℕ) → slice_index new at
    ≡ (if nat_le from at && nat_lt at (from + count) then put (at - from) else slice_index old at)
