use Rattle.std.proofs.Common.{◌≡◌, ◌≤◌, ◌<◌, ◌-◌, ◌+◌, ◌++◌, ℕ, List, length, take, drop, replicate, ◌∙◌, slice_index}
use Rattle.std.proofs.Common.{arith}
use Rattle.board_prelude.proofs.{with_items_is, nat_tests}
use Rattle.dram_store.specs.Bank.{page_end}
use Rattle.dram_store.proofs.BankLemmas.{put_in_kept}
use Rattle.dram_store.proofs.StretchLemmas.{stretch_put, length_put, length_same}
use Rattle.dram_store.proofs.bank.Bank.write_bytes.Goals as goal

pub returns-clause-bytes : goal.returns-clause-bytes
returns-clause-bytes c =
    let kept = c.self.inside.kept.items in
    let bytes = c.args.bytes.now in
    let now : List ℕ = c.deref_mut.result.now in
    let copied = c.copy_from_slice.new.self in
    let some : 0 < length bytes = grind (arith, nat_tests) in
    let grown : now ≡ kept ++ replicate (page_end (c.args.at + (length bytes - 1)) - length kept) 0 =
    c.deref_mut.ensures.value ∙ c.keep_page.ensures.bytes in
    let fits : c.args.at + length bytes ≤ length now = length_put kept now c.args.at (length bytes) some grown in
    let stretch : List ℕ = take c.args.at now ++ (copied ++ drop (c.args.at + length bytes - c.args.at)
    (drop c.args.at now)) in
    let same = length_same now bytes copied c.args.at fits c.copy_from_slice.ensures.after in
    rw (with_items_is c.keep_page.new.kept stretch (same ∙ c.deref_mut.ensures.len), ← c.self.view_is)
    (put_in_kept kept now stretch _ c.args.at (length bytes) (slice_index bytes) grown
    (stretch_put now bytes copied c.args.at fits c.copy_from_slice.ensures.after))
