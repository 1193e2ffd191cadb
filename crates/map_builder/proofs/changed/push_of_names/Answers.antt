use Rattle.std.proofs.Common.{None, take_all, arith}
use Rattle.std.proofs.lemmas.List.Elements.{All-from_recursion}
use Rattle.addr_decode.specs.MapRegister.{IsNumberedName}
use Rattle.map_builder.proofs.WindowLemmas.{pushed_on}
use Rattle.map_builder.proofs.changed.push_of_names.Goals as goal

pub push_of_name-requires-clause-number : goal.push_of_name-requires-clause-number
push_of_name-requires-clause-number c =
    All-from_recursion IsNumberedName c.args.names.now c.requires.names.each c.loop-name.name-index None
    c.loop-name-test.true

pub loop-name-preserved : goal.loop-name-preserved
loop-name-preserved c = record {
  few = omega (arith, c.loop-name.invariant.few, c.push_of_name.ensures.few);
  so_far = λ setup bytes stands.
      pushed_on _ _ _ _ _ _ c.loop-name-test.true (c.loop-name.invariant.so_far setup bytes stands)
      (c.push_of_name.ensures.windows setup bytes stands);
}

pub returns-clause-windows : goal.returns-clause-windows
returns-clause-windows c = λ setup bytes stands.
    rw (take_all c.loop-name.name-index c.args.names.now c.loop-name-test.false)
    at (c.loop-name.invariant.so_far setup bytes stands)
