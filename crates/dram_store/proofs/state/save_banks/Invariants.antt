use Rattle.std.proofs.Common.{◌≡◌, ◌++◌, drop}
use Rattle.std.specs.List.{concat}
use Rattle.byte_fields.specs.Pages.{memory_bytes}
use Rattle.dram_store.proofs.state.save_banks.Given as goal

abbrev pub invariant-loop-bank : goal.invariant-loop-bank
invariant-loop-bank l =
    l.into.items ++ memory_bytes (concat (drop l.bank-index l.banks))
    ≡ l.fn.into.items ++ memory_bytes (concat l.banks)
