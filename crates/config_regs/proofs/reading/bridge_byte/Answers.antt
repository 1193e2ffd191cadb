use Rattle.std.proofs.Common.{sym, refl, arith}
use Rattle.board_prelude.proofs.{bridge}
use Rattle.addr_decode.proofs.NameLemmas.{is_name, named_byte}
use Rattle.addr_decode.proofs.StandsLemmas.{nameless_in_bridge}
use Rattle.config_regs.proofs.FixedBytes.{fixed_beside}
use Rattle.config_regs.proofs.reading.bridge_byte.Goals as goal

pub byte-requires-clause-number : goal.byte-requires-clause-number
byte-requires-clause-number c = (is_name _ (bridge c.args.off) _ (sym c.in-Some.ensures.named)).number

pub fixed_byte-requires : goal.fixed_byte-requires
fixed_byte-requires c = record {
  offset = fixed_beside _ (omega arith) (nameless_in_bridge _ _ refl refl (sym c.in-None.ensures.named));
}

pub returns-in-Some : goal.returns-in-Some
returns-in-Some c = record {
  byte = λ setup bytes stands has.
      let named = sym c.in-Some.ensures.named in
      rw (← (is_name _ _ _ named).place)
      (c.byte.ensures.byte setup bytes stands (named_byte setup _ _ _ c.requires.cards stands.cards.0 named));
}

pub returns-in-None : goal.returns-in-None
returns-in-None c = record {
  byte = λ setup bytes stands has.
      let beside = nameless_in_bridge _ (bridge c.args.off) refl refl (sym c.in-None.ensures.named) in
      rw (has.bridge_bytes c.args.off (fixed_beside c.args.off (omega arith) beside)) (c.fixed_byte.ensures.byte setup);
}
