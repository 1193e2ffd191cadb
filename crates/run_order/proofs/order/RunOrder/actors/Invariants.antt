use Rattle.std.proofs.Common.{List, take}
use Rattle.board_prelude.proofs.{Entry}
use Rattle.run_order.specs.Over.{AreActorsOf, over}
use Rattle.run_order.proofs.order.RunOrder.actors.Given as goal

abbrev pub invariant-loop-entry : goal.invariant-loop-entry
invariant-loop-entry l = (bus : List Entry) → AreActorsOf l.actors.items (over bus (take l.entry-index l.entry-items))
