use Rattle.std.proofs.Common.{refl, arith}
use Rattle.byte_fields.proofs.PageFormats.{push_goes_on, push_ends}
use Rattle.byte_fields.proofs.pages.push_pages.Goals as goal

pub loop-done-preserved : goal.loop-done-preserved
loop-done-preserved c = record {
  added =
      push_goes_on c.args.size c.loop-done.done c.min.result _ _ c.args.plain.now c.args.bytes.now _ _ c.requires.some
      c.requires.same c.loop-done-test.true (omega (arith, c.min.ensures)) c.loop-done.invariant.added refl
      c.in_ok-push_page.ensures.added;
  within = omega (arith, c.min.ensures, c.loop-done.invariant.within);
}

pub returns : goal.returns
returns c = record {
  added = push_ends _ _ _ _ _ _ c.requires.same c.loop-done-test.false c.loop-done.invariant.added;
}
