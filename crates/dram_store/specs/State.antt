-- The state of the DRAM as bytes: by pages of memory.
use Rattle.std.specs.Prelude.{ℕ, ◌≡◌, ◌*◌, List, length}
use Rattle.byte_fields.specs.Fields.{Reading}
use Rattle.byte_fields.specs.Pages.{memory_bytes, memory_fields}
use Rattle.dram_store.specs.Bank.{bank_size}

-- a DRAM of so many MiB
abbrev pub HasMib : (mib : ℕ) → List ℕ → Type 0
HasMib mib dram = length dram ≡ mib * bank_size

abbrev pub dram_bytes : List ℕ → List ℕ
dram_bytes dram = memory_bytes dram

abbrev pub dram_fields : (mib : ℕ) → Reading (List ℕ)
dram_fields mib = memory_fields (mib * bank_size)
