-- The cards so far are copied.
use Rattle.std.proofs.Common.{◌≡◌, take}
use Rattle.command_texts.proofs.board.copies.Given as goal

abbrev pub invariant-loop-card : goal.invariant-loop-card
invariant-loop-card l = record { same : l.copies.items ≡ take l.card-index l.cards }
