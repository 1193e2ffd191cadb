use Rattle.std.proofs.Common.{◌∙◌, sym}
use Rattle.board_stores.proofs.RowLemmas.{counted, four_left}
use Rattle.board_stores.proofs.row.parts_in_row.Goals as goal

pub returns-then-count-eq2 : goal.returns-then-count-eq2
returns-then-count-eq2 c = record {
  answers = counted c.args.row 2 _ (sym c.if-count-eq2.true ∙ c.count_of-count.ensures.count);
}

pub returns-then-count-eq3 : goal.returns-then-count-eq3
returns-then-count-eq3 c = record {
  answers = counted c.args.row 3 _ (sym c.if-count-eq3.true ∙ c.count_of-count.ensures.count);
}

pub returns : goal.returns
returns c = record {
  answers =
      counted c.args.row 4 _
      (four_left c.args.access.now _ c.requires.wide c.count_of-count.ensures.count c.if-count-eq2.false
      c.if-count-eq3.false);
}
