use Rattle.std.proofs.Common.{refl}
use Rattle.addr_decode.proofs.MemoryLemmas.{master_in_order}
use Rattle.addr_decode.proofs.master.master_area.Goals as goal

pub returns-in-Some : goal.returns-in-Some
returns-in-Some c = record {
  area = λ setup bytes stands. rw (master_in_order, ← c.in-Some.ensures.dram setup bytes stands) refl;
}

pub returns-in-None : goal.returns-in-None
returns-in-None c = record {
  area = λ setup bytes stands.
      rw (master_in_order, ← c.in-None.ensures.dram setup bytes stands)
      (c.area_beside_dram.ensures.area setup bytes stands);
}
