-- The cards so far are copied.
use Rattle.std.proofs.Common.{◌≡◌, take}
use Rattle.board_tests.proofs.made_maps.copies.Given as goal

abbrev pub invariant-loop-card : goal.invariant-loop-card
invariant-loop-card l = record { same : l.copies.items ≡ take l.card-index l.cards }
