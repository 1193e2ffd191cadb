use Rattle.std.proofs.Common.{arith, refl}
use Rattle.board_prelude.proofs.{lt-ltb, top_of}
use Rattle.std.proofs.lemmas.Bool.{le-ltb}
use Rattle.addr_decode.proofs.MemoryLemmas.{areas_in_smram}
use Rattle.addr_decode.proofs.areas.areas_in_smram.Goals as goal

pub returns-then-addr-top_of : goal.returns-then-addr-top_of
returns-then-addr-top_of c = record {
  areas = λ setup bytes stands.
      let top = c.top_of.ensures.top bytes stands.rows in
      rw (
        areas_in_smram setup bytes c.args.addr c.requires.range,
        le-ltb c.args.addr (top_of bytes) (omega (arith, top)),
        ← c.requires.beside setup bytes stands,
      ) refl;
}

pub returns : goal.returns
returns c = record {
  areas = λ setup bytes stands.
      let top = c.top_of.ensures.top bytes stands.rows in
      rw (
        areas_in_smram setup bytes c.args.addr c.requires.range,
        lt-ltb c.args.addr (top_of bytes) (omega (arith, top)),
        ← c.requires.beside setup bytes stands,
        c.smram_or.ensures.area bytes stands.singles,
        c.smram_or-2.ensures.area bytes stands.singles,
        c.smram_or-3.ensures.area bytes stands.singles,
        c.smram_or-4.ensures.area bytes stands.singles,
        c.smram_or-5.ensures.area bytes stands.singles,
        c.smram_or-6.ensures.area bytes stands.singles,
      ) refl;
}
