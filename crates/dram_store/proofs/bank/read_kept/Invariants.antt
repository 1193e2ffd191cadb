use Rattle.std.proofs.Common.{◌≡◌, ◌≤◌, ◌*◌, ◌%◌, length, vec_capacity}
use Rattle.byte_fields.specs.Pages.{memory_page, memory_fields}
use Rattle.dram_store.specs.Bank.{bank_size}
use Rattle.dram_store.proofs.StateFormats.{IsRead}
use Rattle.dram_store.proofs.bank.read_kept.Given as goal

abbrev pub invariant-loop-page : goal.invariant-loop-page
invariant-loop-page l = record {
  read : IsRead l.kept.items (l.page * memory_page) l.fields (memory_fields bank_size l.fn.fields);
  before : length l.kept.items ≤ l.page * memory_page;
  pages : length l.kept.items % memory_page ≡ 0;
  room : bank_size ≤ vec_capacity l.kept;
}
