use Rattle.std.proofs.Common.{◌∙◌, sym, ap}
use Rattle.dram_store.specs.Dram.{dram_at}
use Rattle.board_stores.specs.Rows.{low_first}
use Rattle.board_stores.proofs.RowLemmas.{row_value, two_bytes, four_bytes, eight_left}
use Rattle.board_stores.proofs.row.read_row.Goals as goal

pub returns-then-access-eq2 : goal.returns-then-access-eq2
returns-then-access-eq2 c = record {
  value = λ setup history row is answered.
      let read = dram_at c.args.dram.now in
      let access = c.args.access.now in
      c.from.ensures
      ∙ c.read_anywhere.ensures.value
      ∙ sym (two_bytes read access.addr)
      ∙ ap (low_first read access.addr) (sym c.if-access-eq2.true)
      ∙ row_value setup history row access c.args.dram.now c.requires.wide is answered;
}

pub returns-then-access-eq4 : goal.returns-then-access-eq4
returns-then-access-eq4 c = record {
  value = λ setup history row is answered.
      let read = dram_at c.args.dram.now in
      let access = c.args.access.now in
      c.from-then-access-eq4.ensures
      ∙ c.read_anywhere-then-access-eq4.ensures.value
      ∙ sym (four_bytes read access.addr)
      ∙ ap (low_first read access.addr) (sym c.if-access-eq4.true)
      ∙ row_value setup history row access c.args.dram.now c.requires.wide is answered;
}

pub returns : goal.returns
returns c = record {
  value = λ setup history row is answered.
      let access = c.args.access.now in
      let eight = eight_left access c.requires.wide c.if-access-eq2.false c.if-access-eq4.false in
      c.read_eight.ensures.value
      ∙ ap (low_first (dram_at c.args.dram.now) access.addr) (sym eight)
      ∙ row_value setup history row access c.args.dram.now c.requires.wide is answered;
}
