use Rattle.std.proofs.Common.{None, arith}
use Rattle.std.proofs.lemmas.List.Elements.{All-from_recursion}
use Rattle.addr_decode.specs.MapRegister.{IsNumberedName}
use Rattle.map_builder.proofs.KeptLemmas.{held_alone}
use Rattle.map_builder.proofs.unchanged.byte_alone.Goals as goal

pub byte_of_name-requires-clause-number : goal.byte_of_name-requires-clause-number
byte_of_name-requires-clause-number c =
    All-from_recursion IsNumberedName c.args.names.now c.requires.names.each 0 None (omega arith)

pub returns : goal.returns
returns c = record {
  held = λ change named setup bytes stands.
      held_alone _ _ _ _ _ (omega arith) named
      (λ reg name. c.byte_of_name.ensures.held reg name setup bytes stands);
  compared = λ one. c.byte_of_name.ensures.compared;
}
