use Rattle.std.proofs.Common.{true}
use Rattle.board_prelude.specs.{is_shadowed, is_smram_open}
use Rattle.addr_decode.proofs.memory.upper_area.Goals as goal

pub returns-then-contains : goal.returns-then-contains
returns-then-contains c = record {
  dram = λ setup bytes stands.
      c.smram_area.ensures.dram setup bytes (is_shadowed bytes c.args.addr c.args.kind) true stands;
}

pub returns-then-contains-2 : goal.returns-then-contains-2
returns-then-contains-2 c = record {
  dram = λ setup bytes stands.
      c.shadow_area.ensures.dram setup bytes (is_smram_open bytes c.args.kind c.args.smm) true stands;
}
