-- What is left of the cards decides for all of them.
use Rattle.std.proofs.Common.{drop, ◌↔◌}
use Rattle.board_chipset.specs.Setups.{RiseFrom}
use Rattle.board_chipset.proofs.card_check.rise.Given as goal

abbrev pub invariant-loop-card : goal.invariant-loop-card
invariant-loop-card l = RiseFrom 1 l.cards ↔ RiseFrom l.above (drop l.card-index l.cards)
