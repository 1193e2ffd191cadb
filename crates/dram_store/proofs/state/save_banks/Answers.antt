use Rattle.std.proofs.Common.{◌≡◌, ◌+◌, ◌*◌, [], sym, ◌∙◌, length, drop, append_assoc}
use Rattle.std.proofs.lemmas.List.{get_or_read}
use Rattle.board_prelude.proofs.{concat, drop_all, drop_more, append-nil, All-get_or}
use Rattle.byte_fields.specs.Pages.{memory_bytes, memory_page}
use Rattle.byte_fields.proofs.PageFormats.{memory_append, memory_zeros}
use Rattle.dram_store.specs.Bank.{IsBank}
use Rattle.dram_store.proofs.state.save_banks.Goals as goal

pub loop-bank-preserved : goal.loop-bank-preserved
loop-bank-preserved c =
    let banks = c.args.banks.now in
    let i = c.loop-bank.bank-index in
    let below = c.loop-bank-test.true in
    let bank = c.bank-item.result in
    let is = sym (get_or_read banks i bank below c.bank-item.is []) in
    let whole : length bank ≡ 256 * memory_page = rw is at (All-get_or IsBank banks i [] below c.requires.each) in
    rw (
      c.in_ok-save_state.ensures.saved,
      append_assoc _ (memory_bytes bank) (memory_bytes (concat (drop (i + 1) banks))),
      ← memory_append 256 bank (concat (drop (i + 1) banks)) whole,
    ) (rw (drop_more banks i [] below, is) at c.loop-bank.invariant)

pub returns : goal.returns
returns c = record {
  saved = sym (append-nil _) ∙
      rw (drop_all c.loop-bank.bank-index c.args.banks.now c.loop-bank-test.false, memory_zeros 0)
      at c.loop-bank.invariant;
}
