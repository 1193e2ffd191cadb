use Rattle.board_stores.proofs.stores.Stores.open.Goals as goal

pub returns : goal.returns
returns c = record {
  fresh = λ setup mib cards. record {
    dram = c.in_ok-dram.ensures.fresh setup mib;
    contents = c.in_ok-contents.ensures.stored setup cards;
  };
}
