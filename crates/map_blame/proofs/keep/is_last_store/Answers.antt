use Rattle.std.proofs.Common.{◌≡◌, sym, ◌∙◌, arith}
use Rattle.board_prelude.proofs.{bytes_of, bytes_few, reg_after}
use Rattle.map_blame.specs.Covers.{is_last_at}
use Rattle.map_blame.proofs.CoverLemmas.{any_next, any_at}
use Rattle.map_blame.proofs.keep.is_last_store.Goals as goal

pub returns-then-is_last_after : goal.returns-then-is_last_after
returns-then-is_last_after c = record {
  last = λ setup bytes stands cards.
      sym (any_at (λ k. is_last_at setup c.args.covers.now c.args.number (reg_after c.args.reg k))
      (bytes_of c.args.width) c.loop-k.k (bytes_few c.args.width) (omega arith)
      (sym (c.is_last_after.ensures.last setup bytes stands cards) ∙ c.if-is_last_after.true));
}

pub loop-k-preserved : goal.loop-k-preserved
loop-k-preserved c = record {
  none = λ setup bytes stands cards.
      any_next (λ k. is_last_at setup c.args.covers.now c.args.number (reg_after c.args.reg k)) c.loop-k.k
      (omega (arith, bytes_few c.args.width)) (c.loop-k.invariant.none setup bytes stands cards)
      (sym (c.is_last_after.ensures.last setup bytes stands cards) ∙ c.if-is_last_after.false);
}

pub returns : goal.returns
returns c = record {
  last = λ setup bytes stands cards.
      let all : c.loop-k.k ≡ bytes_of c.args.width = omega arith in
      sym (rw all at (c.loop-k.invariant.none setup bytes stands cards));
}
