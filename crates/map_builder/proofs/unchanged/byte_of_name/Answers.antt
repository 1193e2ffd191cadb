use Rattle.std.proofs.Common.{◌∙◌, sym, ap, Option, is_some}
use Rattle.addr_decode.specs.declared.register.MapRegister.{MapRegister}
use Rattle.addr_decode.proofs.NameLemmas.{is_name, named_byte}
use Rattle.map_builder.proofs.unchanged.byte_of_name.Goals as goal

pub returns-in-Some : goal.returns-in-Some
returns-in-Some c = record {
  held = λ reg named setup bytes stands.
      let cards = c.args.regs.now.cards.items in
      let name = sym named ∙ c.in-Some.is in
      c.byte.ensures.byte setup bytes stands (named_byte setup _ _ _ c.requires.cards stands.cards.0 name)
      ∙ ap bytes (is_name _ _ _ name).place;
  compared = ap (λ (it : Option MapRegister). is_some it) (sym c.in-Some.is);
}
