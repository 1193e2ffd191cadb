use Rattle.std.proofs.Common.{◌≡◌, length, arith}
use Rattle.board_prelude.proofs.{err_from_is_err_and}
use Rattle.byte_fields.specs.Pages.{memory_page}
use Rattle.dram_store.proofs.StateFormats.{page_read, page_kept, page_skipped, pages_done}
use Rattle.dram_store.proofs.bank.read_kept.Goals as goal
use Rattle.dram_store.proofs.bank.read_kept.Goals.{in-Some, in_default}
use Rattle.byte_fields.proofs.PageFormats.{zeros_stop}

pub returns-in_err-bytes-clause-took : goal.returns-in_err-bytes-clause-took
returns-in_err-bytes-clause-took c =
    let p = err_from_is_err_and c.from_residual.result c.from_residual.ensures.1 in
    rw p.1 (zeros_stop _ _ _ _ _ _ (omega arith) (omega arith) c.loop-page.invariant.read c.in_err-bytes.ensures.took)

pub loop-page-preserved : goal.loop-page-preserved
loop-page-preserved c =
    let so_far = c.loop-page.invariant in
    elim c.match-branch-2.branch [
      | in-Some w ↦
          let size : length w.in-Some.bytes.now ≡ memory_page = rw w.in-Some.is at c.in_ok-bytes.ensures.whole in
          let put = page_kept _ _ _ c.loop-page.page so_far.before size w.put_page.ensures.bytes in
          let long = put.0 in
          rw w.kept-is
          record {
            read =
                page_read _ _ _ _ _ _ _ so_far.read c.loop-page-test.true
                (rw w.in-Some.is at c.in_ok-bytes.ensures.took) put.1;
            before = omega arith;
            pages = omega arith;
            room = omega (arith, w.put_page.ensures.room);
          }
      | in_default w ↦
          rw w.kept-is
          record {
            read =
                page_read _ _ _ _ _ _ _ so_far.read c.loop-page-test.true
                (rw w.in_default.is at c.in_ok-bytes.ensures.took) (page_skipped _ _ so_far.before);
            before = omega arith;
            pages = so_far.pages;
            room = so_far.room;
          }
    ]

pub returns-clause-took : goal.returns-clause-took
returns-clause-took c =
    pages_done _ _ _ _ c.loop-page.invariant.read (omega (arith, c.loop-page-test.false, c.loop-page.auto.page-end))
