use Rattle.std.proofs.Common.{◌∙◌, ◌++◌, ap, List}
use Rattle.map_builder.specs.declared.range.Changed.{Changed}
use Rattle.map_builder.proofs.WindowLemmas.{covered_by_names}
use Rattle.map_builder.proofs.changed.push_covered.Goals as goal

pub returns-in-Store-clause-windows : goal.returns-in-Store-clause-windows
returns-in-Store-clause-windows c = λ setup bytes stands. c.push_of_names.ensures.windows setup bytes stands
    ∙ ap (λ (more : List Changed). c.args.windows.now.items ++ more)
    (covered_by_names setup bytes _ _ _ _ _ _ c.in-Store.is stands.cards.0 c.requires.names)
