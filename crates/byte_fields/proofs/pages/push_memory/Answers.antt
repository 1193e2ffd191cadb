use Rattle.std.proofs.Common.{ℕ, length, replicate, arith}
use Rattle.std.proofs.lemmas.List.{length-replicate}
use Rattle.byte_fields.specs.Pages.{memory_page}
use Rattle.byte_fields.proofs.PageFormats.{zeros_page, push_goes_on, push_ends}
use Rattle.byte_fields.proofs.pages.push_memory.Goals as goal

pub loop-done-preserved : goal.loop-done-preserved
loop-done-preserved c = record {
  added =
      push_goes_on memory_page c.loop-done.done c.min-count.result _ _ (replicate (length c.args.bytes.now) 0)
      c.args.bytes.now _ _ (omega arith) (length-replicate {A = ℕ} (length c.args.bytes.now) 0) c.loop-done-test.true
      (omega (arith, c.min-count.ensures)) c.loop-done.invariant.added
      (zeros_page c.loop-done.done c.min-count.result (length c.args.bytes.now) memory_page
      (omega (arith, c.min-count.ensures)) (omega (arith, c.min-count.ensures))) c.in_ok-push_page.ensures.added;
  within = omega (arith, c.min-count.ensures, c.loop-done.invariant.within);
}

pub returns : goal.returns
returns c = record {
  added =
      push_ends memory_page c.loop-done.done _ (replicate (length c.args.bytes.now) 0) c.args.bytes.now _
      (length-replicate {A = ℕ} (length c.args.bytes.now) 0) c.loop-done-test.false c.loop-done.invariant.added;
}
