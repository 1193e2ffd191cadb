use Rattle.std.proofs.Common.{◌≡◌, Err, None, sym, ap, ◌∙◌, add-one, arith, rules}
use Rattle.bus_master.specs.Transfer.{TransferPlace}
use Rattle.bus_master.specs.Pieces.{copied}
use Rattle.bus_master.proofs.HeldTargets.{cards_fitted}
use Rattle.bus_master.proofs.WordLemmas.{all_copied, ends_unanswered, one_word, reached_by, reached_stands, same_shape}
use Rattle.bus_master.proofs.WordLemmas.{same_store}
use Rattle.board_prelude.proofs.{nat_tests}
use Rattle.bus_master.proofs.under_way.UnderWay.move_some.Goals as goal

pub answering-requires : goal.answering-requires
answering-requires c = record { cards = cards_fitted c.requires.sound.2 }

pub stretch-words-requires-clause-cards : goal.stretch-words-requires-clause-cards
stretch-words-requires-clause-cards c = cards_fitted c.requires.sound.2

pub returns-in_err-area-clause-moved : goal.returns-in_err-area-clause-moved
returns-in_err-area-clause-moved c = λ setup bytes moving of is.
    let passed : c.from_residual-in_err-area.result ≡ Err c.in_err-area.field-0.0 = search rules in
    let addr = ap (λ (p : TransferPlace). p.addr) c.self.view_is in
    rw passed
    (one_word _ _ _ _ _ c.requires.most
    (ends_unanswered _ _ _ _ _ (c.in_ok-make_ready.ensures.ready setup bytes moving of is)
    (rw (c.kind.ensures.kind, addr) at (c.in_err-area.ensures.end setup bytes of.registers))))

pub loop-init : goal.loop-init
unfolding copied
loop-init c =
    let addr = ap (λ (p : TransferPlace). p.addr) c.self.view_is in
    record {
      shape = same_shape c.args.store.now;
      addr = omega arith;
      left = omega arith;
      moved = omega arith;
      stands = λ setup bytes moving of is.
          reached_stands _ _ _ _ _ (c.in_ok-make_ready.ensures.ready setup bytes moving of is) _
          (rw (c.kind.ensures.kind, addr) at (c.in_ok-area.ensures.end setup bytes of.registers));
    }

pub loop-preserved : goal.loop-preserved
unfolding copied
loop-preserved c =
    let on = c.loop.invariant in
    let place = c.move_word.ensures.place in
    let left_is = ap (λ (p : TransferPlace). p.left) place in
    let moved_is = ap (λ (p : TransferPlace). p.moved) place in
    let addr_is = ap (λ (p : TransferPlace). p.addr) place in
    let addr = ap (λ (p : TransferPlace). p.addr) c.self.view_is in
    let sound = c.requires.sound in
    record {
      shape = grind (arith, nat_tests, on.shape, c.move_word.ensures.shape);
      addr = omega (arith, addr_is, on.addr);
      left = omega (arith, left_is, on.left, c.stretch-words.ensures.left, c.loop-test.true);
      moved = omega (arith, moved_is, on.moved);
      stands = λ setup bytes moving of is.
          let reached = reached_by setup bytes c.args.direction c.args.lba moving in
          rw add-one
          (c.move_word.ensures.word setup bytes
          (copied setup bytes c.args.direction c.args.lba c.loop.counter reached)
          (same_store of on.shape)
          (rw on.addr
          ((rw (c.kind.ensures.kind, addr) at (c.in_ok-area.ensures.area setup bytes of.registers))
          ∙ sym (c.stretch-words.ensures.area setup bytes c.loop.counter of.registers c.loop-test.true)))
          (on.stands setup bytes moving of is));
    }

pub returns-clause-moved : goal.returns-clause-moved
returns-clause-moved c = λ setup bytes moving of is.
    let on = c.loop.invariant in
    let words = c.stretch-words.ensures in
    let view = ap (λ (p : TransferPlace). p.moved) c.self.view_is in
    let addr = ap (λ (p : TransferPlace). p.addr) c.self.view_is in
    let all : c.loop.counter ≡ c.stretch-words.result = omega (arith, c.loop-test.false, c.loop.auto.counter-end) in
    let answers = rw (c.kind.ensures.kind, addr) at (c.in_ok-area.ensures.end setup bytes of.registers) in
    let reached =
    reached_stands setup bytes c.args.direction c.args.lba moving
    (c.in_ok-make_ready.ensures.ready setup bytes moving of is) None answers in
    record {
      words = c.loop.counter;
      some = omega (arith, all, words.some);
      few = omega (arith, all, words.most);
      stands =
          rw (all_copied setup bytes c.args.direction c.args.lba moving reached.come reached.ends
          c.stretch-words.result words.left (omega (arith, view, c.self.invariant.moved)) words.sector
          answers (λ i below. words.area setup bytes i of.registers below)
          c.loop.counter (omega (arith, all, words.some)) (omega (arith, all)))
          (on.stands setup bytes moving of is);
      moved = λ none. omega (arith, on.moved, c.in_ok-make_ready.ensures.moved);
    }
