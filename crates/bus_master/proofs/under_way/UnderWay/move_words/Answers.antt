use Rattle.std.proofs.Common.{◌≡◌, ◌/◌, Err, ap, arith, rules}
use Rattle.bus_master.specs.Transfer.{TransferPlace, words_moved}
use Rattle.bus_master.proofs.WordLemmas.{came_further, came_to_end, same_store}
use Rattle.board_prelude.proofs.{nat_tests}
use Rattle.bus_master.proofs.under_way.UnderWay.move_words.Goals as goal

pub loop-self-preserved : goal.loop-self-preserved
loop-self-preserved c =
    let on = c.loop-self.invariant in
    let moved = c.in_ok-move_some.ensures in
    let now = ap (λ (p : TransferPlace). p.moved) c.self.view_is in
    record {
      shape = grind (arith, nat_tests, on.shape, moved.shape);
      most = omega (arith, moved.most, now, c.loop-self-test.true);
      whole = moved.whole;
      sector = moved.sector;
      stands = λ setup bytes moving of is.
          came_further _ _ _ _ _ _ (moved.moved setup bytes
          (words_moved setup bytes c.args.direction c.args.lba (c.loop-self.self.moved / 2) moving)
          (same_store of on.shape) (on.stands setup bytes moving of is))
          (omega (arith, on.whole));
    }

pub returns-in_err-move_some-clause-moved : goal.returns-in_err-move_some-clause-moved
returns-in_err-move_some-clause-moved c = λ setup bytes moving of is.
    let on = c.loop-self.invariant in
    let now = ap (λ (p : TransferPlace). p.moved) c.self.view_is in
    let passed : c.from_residual.result ≡ Err c.in_err-move_some.field-0.0 = search rules in
    rw passed
    (came_to_end setup bytes c.args.direction c.args.lba (c.loop-self.self.moved / 2) moving c.args.words _
    (c.in_err-move_some.ensures.moved setup bytes
    (words_moved setup bytes c.args.direction c.args.lba (c.loop-self.self.moved / 2) moving)
    (same_store of on.shape) (on.stands setup bytes moving of is))
    (omega (arith, now, on.whole, on.most, c.loop-self-test.true)))
