use Rattle.std.proofs.Common.{arith}
use Rattle.board_prelude.proofs.{nat_tests}
use Rattle.board_prelude.specs.{is_smram_open}
use Rattle.addr_decode.proofs.MemoryLemmas.{smram_dram}
use Rattle.addr_decode.proofs.memory.smram_area.Goals as goal

pub returns-then-addr-top_of : goal.returns-then-addr-top_of
returns-then-addr-top_of c = record {
  dram = λ setup bytes shadowed hole stands.
      let is = smram_dram bytes c.args.addr (is_smram_open bytes c.args.kind c.args.smm) shadowed hole c.requires.range in
      let top = c.top_of.ensures.top bytes stands.rows in
      let opened = c.is_smram_open.ensures.opened bytes stands.singles in
      grind (arith, nat_tests);
}

pub returns : goal.returns
returns c = record {
  dram = λ setup bytes shadowed hole stands.
      let is = smram_dram bytes c.args.addr (is_smram_open bytes c.args.kind c.args.smm) shadowed hole c.requires.range in
      let top = c.top_of.ensures.top bytes stands.rows in
      grind (arith, nat_tests);
}
