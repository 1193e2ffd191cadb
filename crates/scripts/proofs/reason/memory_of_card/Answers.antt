use Rattle.board_prelude.proofs.{common_steps, nat_tests}
use Rattle.std.proofs.Common.{◌≡◌, ◌∙◌, ap, map, arith}
use Rattle.pci_bars.specs.Bases.{base_of}
use Rattle.scripts.proofs.CardLemmas.{base_at, next_base, total_most}
use Rattle.scripts.proofs.reason.memory_of_card.Goals as goal

pub memory_size-memory-requires : goal.memory_size-memory-requires
memory_size-memory-requires c = grind (arith, nat_tests, common_steps, base_at)

pub overflow_add-memory : goal.overflow_add-memory
overflow_add-memory c =
    let view : map base_of c.as_slice-base-items.result.now ≡ c.args.card.now.bases =
    ap (map base_of) c.as_slice-base-items.ensures.value ∙ ap (λ card. card.bases) c.card.view_is in
    let next = next_base c.args.card.now _ _ _ _ _ view c.loop-base-test.true c.loop-base.invariant
    c.memory_size-memory.ensures.size in
    omega (arith, total_most _ _ _ c.requires.card next)

pub loop-base-preserved : goal.loop-base-preserved
loop-base-preserved c =
    let view : map base_of c.as_slice-base-items.result.now ≡ c.args.card.now.bases =
    ap (map base_of) c.as_slice-base-items.ensures.value ∙ ap (λ card. card.bases) c.card.view_is in
    next_base c.args.card.now _ _ _ _ _ view c.loop-base-test.true c.loop-base.invariant
    c.memory_size-memory.ensures.size

pub returns-clause-most : goal.returns-clause-most
returns-clause-most c = grind (arith, nat_tests, common_steps, total_most)
