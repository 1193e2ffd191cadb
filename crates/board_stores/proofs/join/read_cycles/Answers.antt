use Rattle.std.proofs.Common.{◌∙◌, arith}
use Rattle.std.proofs.lemmas.List.{drop_all}
use Rattle.board_prelude.proofs.{nat_tests}
use Rattle.board_stores.proofs.ValueLemmas.{value_below}
use Rattle.board_stores.proofs.JoinLemmas.{next_left, shift_below, value_of, joined_parts, next_value, whole_value}
use Rattle.board_stores.proofs.join.read_cycles.Goals as goal

pub loop-cycle-init : goal.loop-cycle-init
loop-cycle-init c =
    let covers = c.requires.covers in
    record {
      left = (covers.0, covers.1, covers.2, omega (arith, covers.3));
      value = λ setup history kept image. grind (arith, nat_tests);
    }

pub overflow_shl-value : goal.overflow_shl-value
overflow_shl-value c = shift_below _ _ _ c.loop-cycle-test.true c.loop-cycle.invariant.left

pub overflow_add-shift : goal.overflow_add-shift
overflow_add-shift c =
    let next = next_left _ _ _ _ _ c.loop-cycle-test.true c.bytes.ensures.bytes c.loop-cycle.invariant.left in
    omega (arith, next.0)

pub loop-cycle-preserved : goal.loop-cycle-preserved
loop-cycle-preserved c =
    let i = c.loop-cycle.cycle-index in
    let within = c.loop-cycle-test.true in
    let next = next_left _ _ _ _ _ within c.bytes.ensures.bytes c.loop-cycle.invariant.left in
    record {
      left = next.1;
      value = λ setup history kept image.
          let read_is = c.read.ensures.value setup history kept image in
          let below =
          value_below setup history c.args.rom.now c.args.stores.now.contents _ _ _ image
          (λ at. omega (arith, c.type_inv.rom at)) (c.requires.ready i _ within).held in
          rw (c.from.ensures, c.bytes.ensures.bytes)
          (next_value (value_of setup history) c.args.cycles.now i c.loop-cycle.value c.loop-cycle.shift
          c.read.result _ within read_is (rw read_is below) (rw c.bytes.ensures.bytes at next.0)
          (c.loop-cycle.invariant.value setup history kept image));
    }

pub returns : goal.returns
returns c = record {
  value = λ setup history kept image answered.
      whole_value _ _ _ _ _ (drop_all c.loop-cycle.cycle-index c.args.cycles.now (omega arith))
      (c.loop-cycle.invariant.value setup history kept image)
      ∙ joined_parts _ _ _ answered;
}
