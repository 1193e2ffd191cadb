use Rattle.std.proofs.Common.{◌∙◌, ap, ℕ, ◌+◌}
use Rattle.board_stores.proofs.RowLemmas.{two_cycles, four_cycles, eight_cycles, eight_left}
use Rattle.board_stores.proofs.row.count_of.Goals as goal

pub returns-then-access-eq2 : goal.returns-then-access-eq2
returns-then-access-eq2 c = record { count = two_cycles c.args.access.now c.requires.wide c.if-access-eq2.true }

pub returns-then-access-eq4 : goal.returns-then-access-eq4
returns-then-access-eq4 c = record {
  count =
      ap (λ (n : ℕ). 1 + n) c.extra_cycles-extra.ensures.count
      ∙ four_cycles c.args.access.now c.requires.wide c.if-access-eq4.true;
}

pub returns-else-access-eq4 : goal.returns-else-access-eq4
returns-else-access-eq4 c = record {
  count =
      ap (λ (n : ℕ). 2 + n) c.extra_cycles-extra.ensures.count
      ∙ eight_cycles c.args.access.now
      (eight_left c.args.access.now c.requires.wide c.if-access-eq2.false c.if-access-eq4.false);
}
