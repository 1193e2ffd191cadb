use Rattle.std.proofs.Common.{List, ap, length, arith}
use Rattle.std.proofs.lemmas.List.{drop_all}
use Rattle.map_builder.specs.declared.range.Changed.{Changed}
use Rattle.map_builder.specs.Windows.{with_window}
use Rattle.map_builder.proofs.windows.add_window.Goals as goal

pub returns-clause-windows : goal.returns-clause-windows
unfolding with_window
returns-clause-windows c =
    let rising : List Changed = c.loop-index.rising.items in
    let long = ap (λ (all : List Changed). length all) c.as_slice-index-end.ensures.items in
    let none = drop_all c.loop-index.index rising (omega (arith, c.loop-index.invariant.long)) in
    rw (c.push.ensures.items, c.truncate.ensures.items) (rw none at c.loop-index.invariant.so_far)
