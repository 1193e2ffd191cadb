use Rattle.std.proofs.Common.{◌≡◌, ◌≤◌, ◌-◌, ◌+◌, ◌++◌, ℕ, List, length, take, drop, sym, ◌∙◌, subst}
use Rattle.board_prelude.proofs.{with_items, with_items_is}
use Rattle.dram_store.proofs.StretchLemmas.{stretch_put, length_same}
use Rattle.machine.proofs.rom.Rom.write.Goals as goal

pub returns : goal.returns
returns c =
    let now : List ℕ = c.deref_mut.result.now in
    let bytes : List ℕ = c.args.bytes.now in
    let same : now ≡ c.args.self.now = c.deref_mut.ensures.value ∙ c.self.view_is in
    let fits : c.args.off + length bytes ≤ length now =
    subst (λ (all : List ℕ). c.args.off + length bytes ≤ length all) (sym same) c.requires.within in
    let stretch : List ℕ =
    take c.args.off now
    ++ (c.copy_from_slice.new.self ++ drop (c.args.off + length bytes - c.args.off) (drop c.args.off now)) in
    let long = length_same now bytes c.copy_from_slice.new.self c.args.off fits c.copy_from_slice.ensures.after in
    let whole : (with_items c.self.inside.bytes stretch).items ≡ stretch =
    with_items_is c.self.inside.bytes stretch (long ∙ c.deref_mut.ensures.len) in
    record {
      size = rw (whole, ← same) long;
      bytes = rw (whole, ← same)
          (stretch_put now bytes c.copy_from_slice.new.self c.args.off fits c.copy_from_slice.ensures.after);
    }
