use Rattle.std.proofs.Common.{◌≡◌, ℕ, inl, inr, arith, subst, sym}
use Rattle.std.proofs.lemmas.Bool.{cases_lt}
use Rattle.map_builder.specs.Rows.{StaysOrHidden}
use Rattle.map_builder.proofs.MovedRows.{stays_on, hides_on}
use Rattle.map_builder.proofs.rows.moved.Goals as goal

pub loop-row-preserved : goal.loop-row-preserved
loop-row-preserved c = record {
  within = c.widened-moved-in-loop-row.ensures.within c.loop-row.invariant.within;
  top = λ addr out. c.loop-row.invariant.top addr (c.widened-moved-in-loop-row.ensures.wider addr out);
  each = λ addr out below row within.
      elim (cases_lt row c.loop-row.row) [
        | inl earlier ↦ c.loop-row.invariant.each addr (c.widened-moved-in-loop-row.ensures.wider addr out) below row
            earlier
        | inr not ↦
            let is : row ≡ c.loop-row.row = omega arith in
            subst (λ (it : ℕ). StaysOrHidden c.args.old.now c.args.new.now addr it) (sym is) (stays_on _ _ _ _ _ _ _ _
            c.min-first.ensures c.max-end.ensures (omega (arith, c.max-top.ensures)) below
            (rw (c.max.ensures, c.min-in-loop-row.ensures) at (c.widened-moved-in-loop-row.ensures.between addr out))
            (c.loop-row.invariant.hidden addr))
      ];
  hidden = λ addr low. hides_on _ _ _ _ _ _
      c.min-first.ensures (c.loop-row.invariant.hidden addr) (rw c.max-hidden.ensures at low);
}
