use Rattle.std.proofs.Common.{false, refl, sym}
use Rattle.board_prelude.specs.{is_in_hole, is_shadowed}
use Rattle.addr_decode.proofs.MemoryLemmas.{none_elsewhere, plain_dram}
use Rattle.addr_decode.proofs.master.master_dram.Goals as goal

pub returns-then-contains : goal.returns-then-contains
returns-then-contains c = record {
  dram = λ setup bytes stands. c.shadow_area.ensures.dram setup bytes false (is_in_hole bytes c.args.addr) stands;
}

pub returns-in-Some : goal.returns-in-Some
returns-in-Some c = record {
  dram = λ setup bytes stands.
      sym (plain_dram bytes c.args.addr _ false (is_shadowed bytes c.args.addr c.args.kind)
      (sym (c.in-Some.ensures.row setup bytes stands)));
}

pub returns-in-None : goal.returns-in-None
returns-in-None c = record {
  dram = λ setup bytes stands.
      sym (none_elsewhere bytes c.args.addr false (is_shadowed bytes c.args.addr c.args.kind)
      (sym (c.in-None.ensures.row setup bytes stands)) (sym c.if-contains.ensures.inside) (λ inside. refl));
}
