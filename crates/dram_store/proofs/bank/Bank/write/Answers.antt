use Rattle.std.proofs.Common.{◌∙◌}
use Rattle.board_prelude.proofs.{with_items_is, bytes_of, byte}
use Rattle.dram_store.proofs.BankLemmas.{put_in_kept}
use Rattle.dram_store.proofs.bank.Bank.write.Goals as goal

pub returns-clause-bytes : goal.returns-clause-bytes
returns-clause-bytes c =
    let now = c.write_at.new.bytes in
    rw (with_items_is c.keep_page.new.kept now (c.write_at.ensures.length ∙ c.deref_mut.ensures.len), ← c.self.view_is)
    (put_in_kept c.self.inside.kept.items _ now _ c.args.at (bytes_of c.args.width) (byte c.args.value)
    (c.deref_mut.ensures.value ∙ c.keep_page.ensures.bytes) c.write_at.ensures.bytes)
