use Rattle.std.proofs.Common.{◌≡◌, ◌-◌, ◌/◌, ℕ, length, arith, append_assoc}
use Rattle.std.proofs.lemmas.List.{take-replicate}
use Rattle.byte_fields.specs.Pages.{memory_page}
use Rattle.dram_store.specs.Bank.{bank_size}
use Rattle.dram_store.proofs.StateFormats.{bank_bytes}
use Rattle.dram_store.proofs.bank.Bank.save_state.Goals as goal

pub returns : goal.returns
returns c =
    let kept = c.self.inside.kept.items in
    let size : c.len.result ≡ length kept = omega (arith, c.len.ensures) in
    let zeros = take-replicate {X = ℕ} ((bank_size - length kept) / memory_page) 256 0 (omega arith) in
    record {
      saved =
          rw (
            ← c.self.view_is,
            bank_bytes kept c.self.invariant.pages c.self.invariant.within,
            c.in_ok-push_bytes.ensures.added,
            c.in_ok-push_memory.ensures.added,
            c.deref.ensures.value,
            size,
            zeros,
          ) (simp append_assoc);
    }
