use Rattle.std.proofs.Common.{arith}
use Rattle.std.proofs.lemmas.List.{drop_all}
use Rattle.board_stores.proofs.PutLemmas.{none_put, put_at, ready_after}
use Rattle.board_stores.proofs.join.write_cycles.Goals as goal

pub loop-cycle-preserved : goal.loop-cycle-preserved
loop-cycle-preserved c =
    let cycles = c.args.cycles.now in
    let now = c.loop-cycle.stores in
    let new = c.write.new.stores in
    let ready = c.loop-cycle.invariant.ready in
    record {
      ready = (
        ready.0,
        λ k d within. ready_after _ _ _ _ c.write.ensures.put.sizes (ready.1 k d within),
      );
      put = λ last rest.
          c.loop-cycle.invariant.put last (put_at _ _ _ _ _ _ c.loop-cycle-test.true c.write.ensures.put rest);
    }

pub returns : goal.returns
returns c =
    let end = drop_all c.loop-cycle.cycle-index c.args.cycles.now (omega arith) in
    record { put = c.loop-cycle.invariant.put c.loop-cycle.stores (rw end (none_put c.loop-cycle.stores)) }
