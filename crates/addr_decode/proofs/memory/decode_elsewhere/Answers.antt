use Rattle.std.proofs.Common.{refl}
use Rattle.addr_decode.proofs.MemoryLemmas.{area_in_order, denial_in_order, dram_elsewhere}
use Rattle.addr_decode.proofs.memory.decode_elsewhere.Goals as goal

pub returns-in-Some : goal.returns-in-Some
returns-in-Some c = record {
  area = λ setup bytes stands.
      rw (
        area_in_order,
        ← dram_elsewhere bytes _ _ _ (c.requires.elsewhere setup bytes stands),
        ← c.in-Some.ensures.dram setup bytes stands,
      ) refl;
  denial = λ setup bytes stands.
      rw (
        denial_in_order,
        ← dram_elsewhere bytes _ _ _ (c.requires.elsewhere setup bytes stands),
        ← c.in-Some.ensures.dram setup bytes stands,
      ) refl;
}

pub returns-in-None : goal.returns-in-None
returns-in-None c = record {
  area = λ setup bytes stands.
      rw (
        area_in_order,
        ← dram_elsewhere bytes _ _ _ (c.requires.elsewhere setup bytes stands),
        ← c.in-None.ensures.dram setup bytes stands,
      )
      (c.decode_beside_dram.ensures.area setup bytes stands);
  denial = λ setup bytes stands.
      rw (
        denial_in_order,
        ← dram_elsewhere bytes _ _ _ (c.requires.elsewhere setup bytes stands),
        ← c.in-None.ensures.dram setup bytes stands,
        ← c.decode_beside_dram.ensures.area setup bytes stands,
      ) (c.decode_beside_dram.ensures.denial setup bytes stands);
}
