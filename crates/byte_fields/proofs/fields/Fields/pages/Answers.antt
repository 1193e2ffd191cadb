use Rattle.std.proofs.Common.{◌∙◌, refl, arith}
use Rattle.std.proofs.lemmas.Result.{err_from_is_err_and}
use Rattle.byte_fields.proofs.PageFormats.{pages_stop, pages_go_on, pages_end}
use Rattle.byte_fields.proofs.fields.Fields.pages.Goals as goal

pub returns-in_err-page_into-clause-took : goal.returns-in_err-page_into-clause-took
returns-in_err-page_into-clause-took c =
    let p = err_from_is_err_and c.from_residual.result c.from_residual.ensures.1 in
    rw p.1 (pages_stop c.args.size c.loop-done.done c.min.result c.loop-done.into _ _ c.requires.some
    c.loop-done-test.true (omega (arith, c.min.ensures)) c.loop-done.invariant.read _ c.in_err-page_into.ensures.took)

pub loop-done-preserved : goal.loop-done-preserved
loop-done-preserved c =
    let next = pages_go_on c.args.size c.loop-done.done c.min.result c.loop-done.into _ _ c.requires.some
    c.loop-done-test.true (omega (arith, c.min.ensures)) c.loop-done.invariant.read c.page_into.new.page _
    c.in_ok-page_into.ensures.took c.page_into.ensures.length _ refl in
    record {
      read = next.0;
      long = next.1 ∙ c.loop-done.invariant.long;
      within = omega (arith, next.1, c.min.ensures, c.loop-done.invariant.within);
    }

pub returns-clause-took : goal.returns-clause-took
returns-clause-took c =
    pages_end c.args.size c.loop-done.done c.loop-done.into _ _ c.loop-done-test.false c.loop-done.invariant.read
