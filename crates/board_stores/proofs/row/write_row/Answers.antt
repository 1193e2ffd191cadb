use Rattle.std.proofs.Common.{refl}
use Rattle.board_stores.proofs.RowLemmas.{row_put, card_put, kept_cell}
use Rattle.board_stores.proofs.row.write_row.Goals as goal

pub returns : goal.returns
returns c = record {
  put = λ row. record {
    size = c.write_bytes.ensures.size;
    dram = λ at within.
        row_put c.args.access.now row c.args.stores.now.dram c.write_bytes.new.self c.to_le_bytes-bytes.result
        c.requires.wide c.requires.writes c.write_bytes.ensures.size c.to_le_bytes-bytes.ensures
        c.write_bytes.ensures.bytes at within;
    sizes = λ dev base. refl;
    contents = λ dev base off number within. kept_cell _ _ (card_put row dev base off _);
  };
}
